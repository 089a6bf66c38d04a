-- Worked examples of an orchestrator that is made of what its plugins keep: volume 1, v, is attached to n1, n2 and n3, and the stores of n1 and n2
-- are given. At n1 it is published; at n2 it is staged alone.
use Rattle.std.specs.Prelude.{◌≡◌, ℕ, List, [], ◌∷◌, Some, None, codes, true, false}
use Rattle.csi_types.specs.declared.capability.Access.TheVariants.{Block}
use Rattle.csi_types.specs.declared.capability.Capability.{Capability}
use Rattle.csi_types.specs.declared.call.Kind.TheVariants.{CreateVolume}
use Rattle.csi_types.specs.declared.holding.Holding.{Holding}
use Rattle.csi_types.specs.declared.mode.Mode.TheVariants.{MultiNodeMultiWriter}
use Rattle.csi_types.specs.Model.Replies.{ok_reply}
use Rattle.csi_fence.specs.Model.Fence.{Kept}
use Rattle.csi_controller.specs.Model.State.{Volume, ControllerState}
use Rattle.csi_node.specs.Model.State.{StagedVolume}
use Rattle.csi_orchestrator.specs.declared.row.Goal.TheVariants.{Stop}
use Rattle.csi_orchestrator.specs.declared.row.TargetEntry.{TargetEntry}
use Rattle.csi_orchestrator.specs.declared.thing.Known.{Known}
use Rattle.csi_orchestrator.specs.declared.thing.Known.TheVariants.{Yes, No, Maybe}
use Rattle.csi_orchestrator.specs.Model.Shown.{NodeEntryShown}
use Rattle.csi_recovery.specs.Public.Recovered.{GivenNode, recovered, MayRecover}

-- block access at several nodes, which may all write
abbrev pub block : Capability
block = record { access = Block; mode = MultiNodeMultiWriter }

-- v is attached at a node
abbrev pub held : List ℕ → Holding
held node = record { volume = 1; node = node; capability = block; readonly = false }

-- the last call of a volume
abbrev pub last : Kept
last = record { number = record { session = 2; call = 3 }; kind = CreateVolume; reply = ok_reply }

-- a volume of 10 bytes
abbrev pub volume : ℕ → List ℕ → Volume
volume id name = record { id = id; name = name; capacity = 10; capabilities = block ∷ []; is_live = true; kept = last }

-- v, and a volume that was deleted
abbrev pub controller : ControllerState
controller = record { volumes = volume 1 (codes "v") ∷ (record (volume 2 (codes "w")) { is_live = false }) ∷ []; next_id = 3; session = 2; holdings = held (codes "n1") ∷ held (codes "n2") ∷ held (codes "n3") ∷ [] }

-- v is staged so
abbrev pub staged : StagedVolume
staged = record { volume = 1; capability = block }

-- n1, at which it is published
abbrev pub first_given : GivenNode
first_given =
    record {
      id = codes "n1";
      state = record { rows = []; session = 2; staged = staged ∷ []; published = (record { volume = 1; target = codes "/a"; capability = block; readonly = false }) ∷ [] };
    }

-- n2
abbrev pub second_given : GivenNode
second_given = record { id = codes "n2"; state = record { rows = []; session = 2; staged = staged ∷ []; published = [] } }

-- both
abbrev pub given : List GivenNode
given = first_given ∷ second_given ∷ []

-- an entry of v
abbrev pub entry : List ℕ → Known → List TargetEntry → NodeEntryShown
entry node staged targets = record { node = node; capability = block; readonly = false; attached = Yes; staged = staged; target_entries = targets }

-- in use at n1, to be undone at n2, and left at n3; of the deleted volume there is no row
abbrev pub WorkedRows : Type 0
WorkedRows =
    recovered (codes "n1" ∷ codes "n2" ∷ []) 5 controller given
    ≡ record {
      nodes = codes "n1" ∷ codes "n2" ∷ [];
      last = record { session = 5; call = 0 };
      rows = (record {
        name = codes "v";
        arguments = record { required = 10; limit = 0; capabilities = block ∷ [] };
        id = Some 1;
        exists = Yes;
        goal = Some (Stop (codes "n2") (codes "/"));
        open_call = None;
        tries = 1;
        node_entries = entry (codes "n1") Yes ((record { target = codes "/a"; published = Yes }) ∷ []) ∷ entry (codes "n2") Maybe ((record { target = codes "/"; published = No }) ∷ []) ∷ entry (codes "n3") No [] ∷ [];
      }) ∷ [];
    }

-- nothing is refused
abbrev pub WorkedMay : Type 0
WorkedMay = MayRecover (codes "n1" ∷ codes "n2" ∷ []) 5 controller given
