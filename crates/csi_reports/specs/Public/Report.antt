-- The report of a world: one object of JSON, in compact form, with its keys in order. This profile's own.
use Rattle.std.specs.Prelude.{◌≡◌, ℕ, List, length, codes, not, is_some}
use Rattle.serde_json.specs.Data.{Data, boolean, object, no_members, member}
use Rattle.serde_json.specs.Written.{compact_text}
use Rattle.csi_world.specs.Model.Simulated.{WorldParts}
use Rattle.csi_reports.specs.Public.Listed.{live_rows}
use Rattle.csi_reports.specs.Public.Entries.{entries, whole_number, attached_entry, staged_entry, published_entry, volume_entry, known_entry}
use Rattle.csi_reports.specs.Public.Outcomes.{outcome_entry}
use Rattle.csi_reports.specs.Public.Gathered.{Gathered, IsGathered}

-- ---- a function for each key

-- the attached volumes
abbrev pub attached_value : Gathered → Data
attached_value gathered = entries attached_entry gathered.attached

-- what came of each event
abbrev pub events_value : WorldParts → Data
events_value world = entries outcome_entry world.outcomes

-- how many frames there are
abbrev pub frames_value : WorldParts → Data
frames_value world = whole_number (length world.frames)

-- what the orchestrator knows
abbrev pub known_value : Gathered → Data
known_value gathered = entries known_entry gathered.known

-- the published volumes
abbrev pub published_value : Gathered → Data
published_value gathered = entries published_entry gathered.published

-- true where an audit finds nothing
abbrev pub safe_value : Gathered → Data
safe_value gathered = boolean (not (is_some gathered.found))

-- the orchestrator's session
abbrev pub session_value : WorldParts → Data
session_value world = whole_number ((world.orchestrator).last).session

-- the staged volumes
abbrev pub staged_value : Gathered → Data
staged_value gathered = entries staged_entry gathered.staged

-- the live volumes
abbrev pub volumes_value : WorldParts → Data
volumes_value world = entries volume_entry (live_rows (world.controller).rows)

-- ---- the whole

-- all of these
abbrev pub report_of : WorldParts → Gathered → Data
report_of world gathered =
    object (member (codes "attached") (attached_value gathered) (member (codes "events") (events_value world) (member (codes "frames") (frames_value world) (member (codes "known") (known_value gathered) (member (codes "published") (published_value gathered) (member (codes "safe") (safe_value gathered) (member (codes "session") (session_value world) (member (codes "staged") (staged_value gathered) (member (codes "volumes") (volumes_value world) no_members)))))))))

-- the text is the report of this world
pub record IsReport (world : WorldParts) (text : List ℕ) : Type 0 where
  pub gathered : Gathered
  pub of : IsGathered world gathered
  pub written : text ≡ compact_text (report_of world gathered)

-- two texts that are the report of this world are the same
abbrev pub HasOneReport : WorldParts → Type 0
HasOneReport world = (a b : List ℕ) → IsReport world a → IsReport world b → a ≡ b
