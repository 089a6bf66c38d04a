-- What a controller knows: the volumes that it made, and one list of all holdings. CSI's spec.md, "Volume
-- Lifecycle"; that a deleted volume's name is spent until a later session begins, and what is kept of the last call, are this
-- profile's own.
use Rattle.std.specs.Prelude.{ℕ, ◌==◌, List, [], filter, find, count_by, Bool, ◌&&◌, Option}
use Rattle.csi_types.specs.declared.capability.Capability.{Capability}
use Rattle.csi_types.specs.declared.holding.Holding.{Holding}
use Rattle.csi_types.specs.declared.call.Call.{Call}
use Rattle.csi_types.specs.declared.call.Call.TheVariants as calls
use Rattle.csi_types.specs.Model.Same.{same_text}
use Rattle.csi_fence.specs.Model.Fence.{Kept}

-- a volume that was made, deleted since or not, and what is kept of the last call that was answered for it
pub record Volume : Type 0 where
  pub id : ℕ
  pub name : List ℕ
  pub capacity : ℕ
  pub capabilities : List Capability
  pub is_live : Bool
  pub kept : Kept

-- the volumes, the id of the next one, the greatest session that came (0 before any did), and all holdings of all volumes, the
-- newest last. A volume that was deleted is forgotten where a later session begins
pub record ControllerState : Type 0 where
  pub volumes : List Volume
  pub next_id : ℕ
  pub session : ℕ
  pub holdings : List Holding

-- a controller that has answered nothing
abbrev pub empty_controller : ControllerState
empty_controller = record { volumes = []; next_id = 1; session = 0; holdings = [] }

-- the volume of this name, deleted or not, unless it is forgotten
abbrev pub volume_named : List ℕ → ControllerState → Option Volume
volume_named name state = find (λ volume. same_text volume.name name) state.volumes

-- the volume of this id, unless it was deleted
abbrev pub live_volume : ℕ → ControllerState → Option Volume
live_volume id state = find (λ volume. (volume.id == id) && volume.is_live) state.volumes

-- where a volume is held, in the order in which it was published there
abbrev pub holdings_of : ℕ → ControllerState → List Holding
holdings_of id state = filter (λ holding. holding.volume == id) state.holdings

-- the holding is this volume's, at this node
abbrev pub is_held_at : ℕ → List ℕ → Holding → Bool
is_held_at id node holding = (holding.volume == id) && same_text holding.node node

-- how the volume is held at the node, if it is
abbrev pub holding_at : ℕ → List ℕ → ControllerState → Option Holding
holding_at id node state = find (is_held_at id node) state.holdings

-- how many volumes are held at a node
abbrev pub held_count_at : List ℕ → ControllerState → ℕ
held_count_at node state = count_by (λ holding. same_text holding.node node) state.holdings

-- the row of a call: found by name for CreateVolume, else by id
abbrev pub is_row_for : Call → Volume → Bool
is_row_for (calls.CreateVolume name required limit capabilities) volume = same_text volume.name name
is_row_for (calls.DeleteVolume id) volume = volume.id == id
is_row_for (calls.ControllerPublishVolume id node capability readonly) volume = volume.id == id
is_row_for (calls.ControllerUnpublishVolume id node) volume = volume.id == id
is_row_for (calls.NodeStageVolume id capability) volume = volume.id == id
is_row_for (calls.NodeUnstageVolume id) volume = volume.id == id
is_row_for (calls.NodePublishVolume id target capability readonly) volume = volume.id == id
is_row_for (calls.NodeUnpublishVolume id target) volume = volume.id == id

-- a call's row, if it has one
abbrev pub row_for : Call → ControllerState → Option Volume
row_for call state = find (is_row_for call) state.volumes
