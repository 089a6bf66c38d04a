-- A worked example of a controller that is made of what its orchestrator keeps: v, volume 2, is attached to n1, and may be to n2; w is to be made,
-- and has no id yet; x, volume 1, is being deleted; and y, volume 3, was deleted.
use Rattle.std.specs.Prelude.{ℕ, List, [], ◌∷◌, Option, Some, None, codes, true, false}
use Rattle.csi_types.specs.declared.capability.Access.TheVariants.{Block}
use Rattle.csi_types.specs.declared.capability.Capability.{Capability}
use Rattle.csi_types.specs.declared.mode.Mode.TheVariants.{MultiNodeMultiWriter}
use Rattle.csi_controller.specs.Model.State.{Volume, ControllerState}
use Rattle.csi_orchestrator.specs.declared.row.Goal.{Goal}
use Rattle.csi_orchestrator.specs.declared.row.Goal.TheVariants.{Create, Stop, Delete}
use Rattle.csi_orchestrator.specs.declared.thing.Known.{Known}
use Rattle.csi_orchestrator.specs.declared.thing.Known.TheVariants.{Yes, No, Maybe}
use Rattle.csi_orchestrator.specs.Model.Shown.{NodeEntryShown, RowShown}
use Rattle.csi_recovery.specs.Public.Rebuilt.{IsRebuilt, kept_of_old}

-- block access at several nodes, which may all write
abbrev pub block : Capability
block = record { access = Block; mode = MultiNodeMultiWriter }

-- a row: 10 bytes were asked for
abbrev pub row : List ℕ → Option ℕ → Known → Option Goal → ℕ → List NodeEntryShown → RowShown
row name id exists goal tries entries =
    record {
      name = name;
      arguments = record { required = 10; limit = 0; capabilities = block ∷ [] };
      id = id;
      exists = exists;
      goal = goal;
      open_call = None;
      tries = tries;
      node_entries = entries;
    }

-- v is published at n1
abbrev pub in_use : NodeEntryShown
in_use = record { node = codes "n1"; capability = block; readonly = false; attached = Yes; staged = Yes; target_entries = (record { target = codes "/a"; published = Yes }) ∷ [] }

-- and is to be stopped at n2, where it may be attached
abbrev pub stopping : NodeEntryShown
stopping = record { node = codes "n2"; capability = block; readonly = true; attached = Maybe; staged = No; target_entries = (record { target = codes "/b"; published = No }) ∷ [] }

-- the orchestrator's rows
abbrev pub rows : List RowShown
rows =
    row (codes "v") (Some 2) Yes (Some (Stop (codes "n2") (codes "/b"))) 1 (in_use ∷ stopping ∷ [])
    ∷ row (codes "w") None Maybe (Some Create) 1 []
    ∷ row (codes "x") (Some 1) Maybe (Some Delete) 1 []
    ∷ row (codes "y") (Some 3) No None 0 [] ∷ []

-- a volume of 10 bytes
abbrev pub volume : ℕ → List ℕ → Volume
volume id name = record { id = id; name = name; capacity = 10; capabilities = block ∷ []; is_live = true; kept = kept_of_old id }

-- v and x are there, since neither is known not to be, and v is attached to both nodes
abbrev pub state : ControllerState
state =
    record {
      volumes = volume 1 (codes "x") ∷ volume 2 (codes "v") ∷ [];
      next_id = 9;
      session = 7;
      holdings = (record { volume = 2; node = codes "n1"; capability = block; readonly = false }) ∷ (record { volume = 2; node = codes "n2"; capability = block; readonly = true }) ∷ [];
    }

-- so it is, in session 7 and with the word 9
abbrev pub WorkedRebuilt : Type 0
WorkedRebuilt = IsRebuilt 7 9 rows state
