-- Worked examples of the spelling of records, which the checker computes.
use Rattle.std.specs.Prelude.{◌≡◌, [], ◌∷◌, List, false, length, codes, Some, None}
use Rattle.csi_types.specs.declared.mode.Mode.TheVariants.{SingleNodeWriter}
use Rattle.csi_types.specs.declared.capability.Access.TheVariants.{Block}
use Rattle.csi_types.specs.declared.capability.Capability.{Capability}
use Rattle.csi_types.specs.declared.call.Call.TheVariants.{CreateVolume}
use Rattle.csi_types.specs.declared.call.Party.TheVariants.{Controller}
use Rattle.csi_types.specs.Model.Config.{Config}
use Rattle.csi_types.specs.Model.Frame.{Frame}
use Rattle.csi_types.specs.Model.Replies.{call_frame}
use Rattle.csi_records.specs.declared.version.RecordVersion.{RecordVersion}
use Rattle.csi_records.specs.declared.version.RecordVersion.TheVariants.{One, Two}
use Rattle.csi_controller.specs.Model.State.{ControllerState, empty_controller}
use Rattle.csi_controller.specs.Public.Fenced.{after_frames}
use Rattle.csi_orchestrator.specs.declared.row.Goal.TheVariants.{Use}
use Rattle.csi_orchestrator.specs.declared.thing.Known.TheVariants.{Yes, No, Maybe}
use Rattle.csi_orchestrator.specs.Model.Shown.{RowShown}
use Rattle.csi_orchestrator.specs.Public.Record.{RecordParts}
use Rattle.csi_stores.specs.Public.Part.{StoredPart}
use Rattle.csi_records.specs.Public.Spelling.{present, controller_parts, volume_rows, node_parts, record_bytes}
use Rattle.csi_records.specs.Public.OrchestratorRecords.{kept_parts}
use Rattle.csi_records.specs.Public.Worked.{parts_of_state}

-- no nodes, and volumes of at most 1,000 bytes
abbrev pub no_nodes : Config
no_nodes = record { greatest = 1000; nodes = [] }

-- creates v, of at least 10 bytes, for one writing node
abbrev pub create : Frame
create = call_frame (record { session = 1; call = 1 }) Controller (CreateVolume (codes "v") 10 0 (record { access = Block; mode = SingleNodeWriter } ∷ []))

-- the same in a version that has no session
abbrev pub earlier_parts : RecordVersion → ControllerState → List StoredPart
earlier_parts version state = controller_parts version state.next_id None (volume_rows state)

-- what such a controller knows
abbrev pub created : ControllerState
created = after_frames no_nodes empty_controller (create ∷ [])

-- the record of a controller that made its first volume: 90 bytes; and in versions 1 and 2, in which it is read still
pub record CreatedRow : Type 0 where
  pub bytes : record_bytes present (parts_of_state created)
      ≡ 3 ∷ 0 ∷ 0 ∷ 0 ∷ 2
      ∷ 0 ∷ 0 ∷ 0 ∷ 0 ∷ 0 ∷ 0 ∷ 0 ∷ 0 ∷ 0 ∷ 0 ∷ 0 ∷ 18 ∷ 3 ∷ 0 ∷ 0 ∷ 0 ∷ 0 ∷ 0 ∷ 0 ∷ 0 ∷ 0 ∷ 2 ∷ 0 ∷ 0 ∷ 0 ∷ 0 ∷ 0 ∷ 0 ∷ 0 ∷ 1
      ∷ 0 ∷ 0 ∷ 0 ∷ 0 ∷ 0 ∷ 0 ∷ 0 ∷ 1 ∷ 0 ∷ 0 ∷ 0 ∷ 43 ∷ 3 ∷ 1 ∷ 1 ∷ 118 ∷ 0 ∷ 0 ∷ 0 ∷ 0 ∷ 0 ∷ 0 ∷ 0 ∷ 10 ∷ 1 ∷ 0 ∷ 1 ∷ 0
      ∷ 0 ∷ 0 ∷ 0 ∷ 0 ∷ 0 ∷ 0 ∷ 0 ∷ 1 ∷ 0 ∷ 0 ∷ 0 ∷ 0 ∷ 0 ∷ 0 ∷ 0 ∷ 1 ∷ 129 ∷ 0 ∷ 0 ∷ 0 ∷ 0 ∷ 0 ∷ 0 ∷ 0 ∷ 0 ∷ 1 ∷ 0 ∷ []
  pub count : length (record_bytes present (parts_of_state created)) ≡ 90
  pub second : record_bytes Two (earlier_parts Two created)
      ≡ 2 ∷ 0 ∷ 0 ∷ 0 ∷ 2
      ∷ 0 ∷ 0 ∷ 0 ∷ 0 ∷ 0 ∷ 0 ∷ 0 ∷ 0 ∷ 0 ∷ 0 ∷ 0 ∷ 10 ∷ 2 ∷ 0 ∷ 0 ∷ 0 ∷ 0 ∷ 0 ∷ 0 ∷ 0 ∷ 0 ∷ 2
      ∷ 0 ∷ 0 ∷ 0 ∷ 0 ∷ 0 ∷ 0 ∷ 0 ∷ 1 ∷ 0 ∷ 0 ∷ 0 ∷ 43 ∷ 2 ∷ 1 ∷ 1 ∷ 118 ∷ 0 ∷ 0 ∷ 0 ∷ 0 ∷ 0 ∷ 0 ∷ 0 ∷ 10 ∷ 1 ∷ 0 ∷ 1 ∷ 0
      ∷ 0 ∷ 0 ∷ 0 ∷ 0 ∷ 0 ∷ 0 ∷ 0 ∷ 1 ∷ 0 ∷ 0 ∷ 0 ∷ 0 ∷ 0 ∷ 0 ∷ 0 ∷ 1 ∷ 129 ∷ 0 ∷ 0 ∷ 0 ∷ 0 ∷ 0 ∷ 0 ∷ 0 ∷ 0 ∷ 1 ∷ 0 ∷ []
  pub first : record_bytes One (earlier_parts One created)
      ≡ 1 ∷ 0 ∷ 0 ∷ 0 ∷ 2
      ∷ 0 ∷ 0 ∷ 0 ∷ 0 ∷ 0 ∷ 0 ∷ 0 ∷ 0 ∷ 0 ∷ 0 ∷ 0 ∷ 10 ∷ 1 ∷ 0 ∷ 0 ∷ 0 ∷ 0 ∷ 0 ∷ 0 ∷ 0 ∷ 0 ∷ 2
      ∷ 0 ∷ 0 ∷ 0 ∷ 0 ∷ 0 ∷ 0 ∷ 0 ∷ 1 ∷ 0 ∷ 0 ∷ 0 ∷ 43 ∷ 1 ∷ 1 ∷ 1 ∷ 118 ∷ 0 ∷ 0 ∷ 0 ∷ 0 ∷ 0 ∷ 0 ∷ 0 ∷ 10 ∷ 1 ∷ 0 ∷ 1 ∷ 0
      ∷ 0 ∷ 0 ∷ 0 ∷ 0 ∷ 0 ∷ 0 ∷ 0 ∷ 1 ∷ 0 ∷ 0 ∷ 0 ∷ 0 ∷ 0 ∷ 0 ∷ 0 ∷ 1 ∷ 129 ∷ 0 ∷ 0 ∷ 0 ∷ 0 ∷ 0 ∷ 0 ∷ 0 ∷ 0 ∷ 1 ∷ 0 ∷ []

-- a controller that answered nothing has its head alone, and so does a node
pub record EmptyRow : Type 0 where
  pub controller : parts_of_state empty_controller ≡ record { key = 0; value = 3 ∷ 0 ∷ 0 ∷ 0 ∷ 0 ∷ 0 ∷ 0 ∷ 0 ∷ 0 ∷ 1 ∷ 0 ∷ 0 ∷ 0 ∷ 0 ∷ 0 ∷ 0 ∷ 0 ∷ 0 ∷ [] } ∷ []
  pub node : node_parts present (codes "n1") (Some 0) [] ≡ record { key = 0; value = 3 ∷ 1 ∷ 2 ∷ 110 ∷ 49 ∷ 0 ∷ 0 ∷ 0 ∷ 0 ∷ 0 ∷ 0 ∷ 0 ∷ 0 ∷ [] } ∷ []

-- for one writing node, as a block device
abbrev pub one_writer : Capability
one_writer = record { access = Block; mode = SingleNodeWriter }

-- v of 10 bytes was made, under the id 1; it is to be published at /a of n1, and the first call of that was sent
abbrev pub on_the_way : RowShown
on_the_way =
    record {
      name = codes "v";
      arguments = record { required = 10; limit = 0; capabilities = one_writer ∷ [] };
      id = Some 1;
      exists = Yes;
      goal = Some (Use (record { node = codes "n1"; target = codes "/a"; capability = one_writer; readonly = false }));
      open_call = None;
      tries = 1;
      node_entries = record {
        node = codes "n1";
        capability = one_writer;
        readonly = false;
        attached = Maybe;
        staged = No;
        target_entries = record { target = codes "/a"; published = No } ∷ [];
      } ∷ [];
    }

-- what an orchestrator of two nodes keeps, in session 3, with that row
abbrev pub used : RecordParts
used = record { nodes = codes "n1" ∷ codes "n2" ∷ []; session = 3; rows = on_the_way ∷ [] }

-- the record of that orchestrator: 103 bytes
pub record OnTheWayRow : Type 0 where
  pub bytes : record_bytes present (kept_parts used)
      ≡ 3 ∷ 0 ∷ 0 ∷ 0 ∷ 2
      ∷ 0 ∷ 0 ∷ 0 ∷ 0 ∷ 0 ∷ 0 ∷ 0 ∷ 0 ∷ 0 ∷ 0 ∷ 0 ∷ 17 ∷ 3 ∷ 2 ∷ 0 ∷ 0 ∷ 0 ∷ 0 ∷ 0 ∷ 0 ∷ 0 ∷ 3 ∷ 2 ∷ 2 ∷ 110 ∷ 49 ∷ 2 ∷ 110 ∷ 50
      ∷ 0 ∷ 0 ∷ 0 ∷ 0 ∷ 0 ∷ 0 ∷ 0 ∷ 1 ∷ 0 ∷ 0 ∷ 0 ∷ 57 ∷ 3 ∷ 1 ∷ 118 ∷ 0 ∷ 0 ∷ 0 ∷ 0 ∷ 0 ∷ 0 ∷ 0 ∷ 10 ∷ 0 ∷ 0 ∷ 0 ∷ 0 ∷ 0 ∷ 0 ∷ 0 ∷ 0 ∷ 1 ∷ 0 ∷ 1
      ∷ 1 ∷ 0 ∷ 0 ∷ 0 ∷ 0 ∷ 0 ∷ 0 ∷ 0 ∷ 1 ∷ 1 ∷ 2 ∷ 2 ∷ 110 ∷ 49 ∷ 2 ∷ 47 ∷ 97 ∷ 0 ∷ 1 ∷ 0 ∷ 1
      ∷ 1 ∷ 2 ∷ 110 ∷ 49 ∷ 0 ∷ 1 ∷ 0 ∷ 2 ∷ 0 ∷ 1 ∷ 2 ∷ 47 ∷ 97 ∷ 0 ∷ []
  pub count : length (record_bytes present (kept_parts used)) ≡ 103
