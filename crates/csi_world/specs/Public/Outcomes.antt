-- What came of an event, as text. This profile's own.
use Rattle.std.specs.Prelude.{ℕ, List, ◌++◌, Some, None, codes, decimal}
use Rattle.csi_orchestrator.specs.declared.fault.OrchFault.{OrchFault}
use Rattle.csi_orchestrator.specs.Public.Refusals.{refusal_number, fault_name}
use Rattle.csi_world.specs.declared.outcomes.Outcome.{Outcome}
use Rattle.csi_world.specs.declared.outcomes.Outcome.TheVariants as outcomes
use Rattle.csi_world.specs.declared.outcomes.RecoveryRefusal.{RecoveryRefusal}
use Rattle.csi_world.specs.declared.outcomes.RecoveryRefusal.TheVariants as refusals

-- with the refusal's number and name
abbrev pub refused_text : OrchFault → List ℕ
refused_text fault = codes "refused " ++ (decimal (refusal_number fault) ++ codes " ") ++ fault_name fault

-- why no orchestrator was recovered
abbrev pub unrecovered_text : RecoveryRefusal → List ℕ
unrecovered_text refusals.NotLater = codes "not recovered NotLater"
unrecovered_text refusals.SameNode = codes "not recovered SameNode"
unrecovered_text refusals.Disagrees = codes "not recovered Disagrees"
unrecovered_text refusals.BadNodes = codes "not recovered BadNodes"
unrecovered_text refusals.BadRow = codes "not recovered BadRow"

-- an outcome
abbrev pub outcome_text : Outcome → List ℕ
outcome_text (outcomes.Sent number) = codes "sent " ++ decimal number
outcome_text outcomes.Met = codes "met"
outcome_text (outcomes.Refused fault) = refused_text fault
outcome_text (outcomes.Answered number) = codes "answered " ++ decimal number
outcome_text (outcomes.Taken None) = codes "taken"
outcome_text (outcomes.Taken (Some number)) = codes "taken, sent " ++ decimal number
outcome_text outcomes.Ignored = codes "ignored"
outcome_text outcomes.NoSuchFrame = codes "no such frame"
outcome_text outcomes.Restarted = codes "restarted"
outcome_text outcomes.NoSuchNode = codes "no such node"
outcome_text outcomes.Joined = codes "joined"
outcome_text outcomes.NodeThere = codes "node there"
outcome_text outcomes.Lost = codes "lost"
outcome_text (outcomes.Settled count) = codes "settled " ++ decimal count
outcome_text (outcomes.NotSettled count) = codes "not settled " ++ decimal count
outcome_text outcomes.Recovered = codes "recovered"
outcome_text (outcomes.NotRecovered why) = unrecovered_text why
