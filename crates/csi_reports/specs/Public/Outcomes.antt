-- What came of an event, as a report has it. This profile's own.
use Rattle.serde_json.specs.Data.{Data, string}
use Rattle.csi_world.specs.declared.outcomes.Outcome.{Outcome}
use Rattle.csi_world.specs.Public.Outcomes.{outcome_text}

-- an outcome, as a text
abbrev pub outcome_entry : Outcome → Data
outcome_entry outcome = string (outcome_text outcome)
