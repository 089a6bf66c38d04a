-- The spelling of an orchestrator's record: a head with the session and the nodes, and a row for each volume, under a key of its own from 1.
-- A row's open call isn't spelled. Texts, capabilities, flags and ids are spelled as in the plugins' records. This profile's own.
use Rattle.std.specs.Prelude.{ℕ, List, [], ◌∷◌, ◌++◌, map, Option, Some, None}
use Rattle.csi_orchestrator.specs.declared.request.Arguments.{Arguments}
use Rattle.csi_orchestrator.specs.declared.request.Usage.{Usage}
use Rattle.csi_orchestrator.specs.declared.row.Goal.{Goal}
use Rattle.csi_orchestrator.specs.declared.row.Goal.TheVariants.{Create, Use, Stop, Delete}
use Rattle.csi_orchestrator.specs.declared.row.TargetEntry.{TargetEntry}
use Rattle.csi_orchestrator.specs.declared.thing.Known.{Known}
use Rattle.csi_orchestrator.specs.declared.thing.Known.TheVariants.{Yes, No, Maybe}
use Rattle.csi_orchestrator.specs.Model.Shown.{NodeEntryShown, RowShown}
use Rattle.csi_frames.specs.Public.Spelling.{word, text, flag, capability}
use Rattle.csi_stores.specs.Public.Part.{StoredPart}
use Rattle.csi_records.specs.declared.version.RecordVersion.{RecordVersion}
use Rattle.csi_records.specs.Public.Version.{record_version_number}
use Rattle.csi_records.specs.Public.Spelling.{list_spelling}

-- an orchestrator's head
abbrev pub orchestrator_head : RecordVersion → ℕ → List (List ℕ) → StoredPart
orchestrator_head version session nodes = record { key = 0; value = record_version_number version ∷ 2 ∷ word session ++ list_spelling text nodes }

-- 0 where it isn't so, 1 where it is, 2 where it may be
abbrev pub known_byte : Known → ℕ
known_byte No = 0
known_byte Yes = 1
known_byte Maybe = 2

-- the same, as a field
abbrev pub known_bytes : Known → List ℕ
known_bytes known = known_byte known ∷ []

-- what a volume was to be created with
abbrev pub arguments_bytes : Arguments → List ℕ
arguments_bytes arguments = word arguments.required ++ word arguments.limit ++ list_spelling capability arguments.capabilities

-- 0, or 1 and the id
abbrev pub id_bytes : Option ℕ → List ℕ
id_bytes None = 0 ∷ []
id_bytes (Some id) = 1 ∷ word id

-- where and how a volume is to be used
abbrev pub usage_bytes : Usage → List ℕ
usage_bytes usage = text usage.node ++ text usage.target ++ capability usage.capability ++ flag usage.readonly

-- 0 for none, or the kind of the goal and what it names
abbrev pub goal_bytes : Option Goal → List ℕ
goal_bytes None = 0 ∷ []
goal_bytes (Some Create) = 1 ∷ []
goal_bytes (Some (Use usage)) = 2 ∷ usage_bytes usage
goal_bytes (Some (Stop node target)) = 3 ∷ text node ++ text target
goal_bytes (Some Delete) = 4 ∷ []

-- a target, and whether the volume is published at it
abbrev pub target_entry_bytes : TargetEntry → List ℕ
target_entry_bytes entry = text entry.target ++ known_bytes entry.published

-- a node, how the volume is held there, what is known of it, and its targets
abbrev pub node_entry_bytes : NodeEntryShown → List ℕ
node_entry_bytes entry =
    text entry.node ++ capability entry.capability ++ flag entry.readonly ++ known_bytes entry.attached ++ known_bytes entry.staged
    ++ list_spelling target_entry_bytes entry.target_entries

-- the value of an orchestrator's row
abbrev pub orchestrator_row : RecordVersion → RowShown → List ℕ
orchestrator_row version row =
    record_version_number version ∷ text row.name ++ arguments_bytes row.arguments ++ id_bytes row.id ++ known_bytes row.exists ++ goal_bytes row.goal
    ++ row.tries ∷ list_spelling node_entry_bytes row.node_entries

-- a row, and the key under which it stands
pub record KeyedRow : Type 0 where
  pub key : ℕ
  pub row : RowShown

-- the part of an orchestrator's row
abbrev pub orchestrator_part : RecordVersion → KeyedRow → StoredPart
orchestrator_part version keyed = record { key = keyed.key; value = orchestrator_row version keyed.row }

-- an orchestrator's record: its head, and its rows
abbrev pub orchestrator_parts : RecordVersion → ℕ → List (List ℕ) → List KeyedRow → List StoredPart
orchestrator_parts version session nodes rows = orchestrator_head version session nodes ∷ map (orchestrator_part version) rows
