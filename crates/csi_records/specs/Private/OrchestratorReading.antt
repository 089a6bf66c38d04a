-- How an orchestrator's head, and the fields of its rows, are read behind the version.
use Rattle.std.specs.Prelude.{ℕ, zero, suc, Option, Some, None, if◌then◌else◌}
use Rattle.csi_orchestrator.specs.declared.request.Arguments.{Arguments}
use Rattle.csi_orchestrator.specs.declared.request.Usage.{Usage}
use Rattle.csi_orchestrator.specs.declared.row.Goal.{Goal}
use Rattle.csi_orchestrator.specs.declared.row.Goal.TheVariants.{Create, Use, Stop, Delete}
use Rattle.csi_orchestrator.specs.declared.row.TargetEntry.{TargetEntry}
use Rattle.csi_orchestrator.specs.declared.thing.Known.{Known}
use Rattle.csi_orchestrator.specs.declared.thing.Known.TheVariants.{Yes, No, Maybe}
use Rattle.csi_orchestrator.specs.Model.Shown.{NodeEntryShown, RowShown}
use Rattle.csi_records.specs.declared.version.RecordVersion.{RecordVersion}
use Rattle.csi_records.specs.Public.Version.{has_session}
use Rattle.csi_records.specs.Public.OrchestratorRows.{OrchestratorHeadShown}
use Rattle.csi_records.specs.Private.Reading.{Reader, ◌>>=◌, give, nothing, read_tag, read_byte, read_count, read_code, read_word, read_flag, read_counted, read_text, read_capability, id_from}

-- the session and the nodes, where the version has such a head
unfoldable pub read_orchestrator_head : RecordVersion → Reader OrchestratorHeadShown
read_orchestrator_head version =
    if has_session version then (do
      kind ← read_tag 2
      session ← read_word
      nodes ← read_counted 64 (read_text 1 255)
      give (record { session = session; nodes = nodes })) else nothing

-- ---- the fields of rows

-- 0 where it isn't so, 1 where it is, 2 where it may be
abbrev pub known_from : ℕ → Option Known
known_from zero = Some No
known_from (suc zero) = Some Yes
known_from (suc (suc zero)) = Some Maybe
known_from (suc (suc (suc n))) = None

-- what is known
unfoldable pub read_known : Reader Known
read_known = read_code known_from

-- an id that was read, which 0 is not
abbrev pub given_id : Option ℕ → Reader (Option ℕ)
given_id None = nothing
given_id (Some id) = give (Some id)

-- an id, if there is one
unfoldable pub read_id_if : Reader (Option ℕ)
read_id_if = do
  is_there ← read_flag
  if is_there then (do
    n ← read_word
    given_id (id_from n)) else give None

-- what a volume was to be created with
unfoldable pub read_arguments : RecordVersion → Reader Arguments
read_arguments version = do
  required ← read_word
  limit ← read_word
  capabilities ← read_counted 8 (read_capability version)
  give (record { required = required; limit = limit; capabilities = capabilities })

-- where and how a volume is to be used
unfoldable pub read_usage : RecordVersion → Reader Usage
read_usage version = do
  node ← read_text 1 255
  target ← read_text 1 255
  capability ← read_capability version
  readonly ← read_flag
  give (record { node = node; target = target; capability = capability; readonly = readonly })

-- where a volume is to be used no longer
unfoldable pub read_stop : Reader (Option Goal)
read_stop = do
  node ← read_text 1 255
  target ← read_text 1 255
  give (Some (Stop node target))

-- a goal of this kind
abbrev pub read_goal_of : RecordVersion → ℕ → Reader (Option Goal)
read_goal_of version zero = give None
read_goal_of version (suc zero) = give (Some Create)
read_goal_of version (suc (suc zero)) = do
  usage ← read_usage version
  give (Some (Use usage))
read_goal_of version (suc (suc (suc zero))) = read_stop
read_goal_of version (suc (suc (suc (suc zero)))) = give (Some Delete)
read_goal_of version (suc (suc (suc (suc (suc n))))) = nothing

-- a goal, if there is one
unfoldable pub read_goal : RecordVersion → Reader (Option Goal)
read_goal version = do
  kind ← read_byte
  read_goal_of version kind

-- a target, and whether the volume is published at it
unfoldable pub read_target_entry : Reader TargetEntry
read_target_entry = do
  target ← read_text 1 255
  published ← read_known
  give (record { target = target; published = published })

-- a node, how the volume is held there, what is known of it, and its targets
unfoldable pub read_node_entry : RecordVersion → Reader NodeEntryShown
read_node_entry version = do
  node ← read_text 1 255
  capability ← read_capability version
  readonly ← read_flag
  attached ← read_known
  staged ← read_known
  target_entries ← read_counted 16 read_target_entry
  give (record { node = node; capability = capability; readonly = readonly; attached = attached; staged = staged; target_entries = target_entries })

-- a row, which has no open call
unfoldable pub read_orchestrator_row : RecordVersion → Reader RowShown
read_orchestrator_row version = do
  name ← read_text 1 128
  arguments ← read_arguments version
  id ← read_id_if
  exists ← read_known
  goal ← read_goal version
  tries ← read_count 3
  node_entries ← read_counted 64 (read_node_entry version)
  give (record { name = name; arguments = arguments; id = id; exists = exists; goal = goal; open_call = None; tries = tries; node_entries = node_entries })
