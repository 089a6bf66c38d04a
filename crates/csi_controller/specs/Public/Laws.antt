-- Laws that the controller's table keeps, in the words of CSI's spec.md ("idempotent" calls, and what each
-- call ensures), apart from what is kept of the last call.
use Rattle.std.specs.Prelude.{◌≡◌, ◌⊎◌, ◌≤◌, ℕ, ◌==◌, List, map, filter, Bool, true, not, Option, Some, None, IsTrue}
use Rattle.std.specs.List.{AllByRecursion}
use Rattle.csi_types.specs.declared.capability.Capability.{Capability}
use Rattle.csi_types.specs.declared.holding.Holding.{Holding}
use Rattle.csi_types.specs.declared.number.Number.{Number}
use Rattle.csi_types.specs.declared.call.Call.{Call}
use Rattle.csi_types.specs.declared.call.Call.TheVariants as calls
use Rattle.csi_types.specs.declared.reply.Reply.{Reply}
use Rattle.csi_types.specs.Model.Config.{Config}
use Rattle.csi_fence.specs.Model.Fence.{Kept}
use Rattle.csi_fence.specs.Public.Lawful as lawful
use Rattle.csi_fence.specs.Public.Lawful.{PluginMachine, TableLaw}
use Rattle.csi_types.specs.Model.Same.{has_capability}
use Rattle.csi_controller.specs.Model.State.{Volume, ControllerState, empty_controller, live_volume, holding_at, is_row_for}
use Rattle.csi_controller.specs.Model.Table.{controller_row}
use Rattle.csi_controller.specs.Model.Fenced.{controller_with}

-- the table's reply to a call, and the state after it
abbrev pub table_reply : Config → ControllerState → Call → Reply
table_reply config state call = (controller_row config state call).reply

-- the fence lets the call through to the table
abbrev pub IsLetThrough : Config → ControllerState → Number → Call → Type 0
IsLetThrough config state number call = lawful.IsLetThrough (controller_with config) state number call

-- the volume, with this kept
abbrev pub keeping : Kept → Volume → Volume
keeping kept volume = record volume { kept = kept }

-- the two differ in nothing but what is kept of the last calls
abbrev pub IsSameApart : ControllerState → ControllerState → Type 0
IsSameApart old new =
    (kept : Kept) → record old { volumes = map (keeping kept) old.volumes } ≡ record new { volumes = map (keeping kept) new.volumes }

-- a live volume with this id, as CreateVolume was asked for it
pub record IsMadeAs (state : ControllerState) (id : Option ℕ) (name : List ℕ) (required limit : ℕ) (capabilities : List Capability) : Type 0 where
  pub volume : Volume
  pub is_live : live_volume volume.id state ≡ Some volume
  pub has_id : id ≡ Some volume.id
  pub has_name : volume.name ≡ name
  pub not_below : required ≤ volume.capacity
  pub not_above : (limit ≡ 0) ⊎ (volume.capacity ≤ limit)
  pub has_each : AllByRecursion (λ capability. IsTrue (has_capability volume.capabilities capability)) capabilities

-- after status 0 what the call does holds, and what it undoes doesn't
abbrev pub IsDone : ControllerState → Reply → Call → Type 0
IsDone state reply (calls.CreateVolume name required limit capabilities) = IsMadeAs state reply.id name required limit capabilities
IsDone state reply (calls.DeleteVolume id) = live_volume id state ≡ None
IsDone state reply (calls.ControllerPublishVolume id node capability readonly) =
    let holding : Holding = record { volume = id; node = node; capability = capability; readonly = readonly } in
    holding_at id node state ≡ Some holding
IsDone state reply (calls.ControllerUnpublishVolume id node) = holding_at id node state ≡ None
IsDone state reply (calls.NodeStageVolume id capability) = ⊥
IsDone state reply (calls.NodeUnstageVolume id) = ⊥
IsDone state reply (calls.NodePublishVolume id target capability readonly) = ⊥
IsDone state reply (calls.NodeUnpublishVolume id target) = ⊥

-- a holding of another volume than the call's
abbrev pub is_of_another : Call → Holding → Bool
is_of_another (calls.CreateVolume name required limit capabilities) holding = true
is_of_another (calls.DeleteVolume id) holding = not (holding.volume == id)
is_of_another (calls.ControllerPublishVolume id node capability readonly) holding = not (holding.volume == id)
is_of_another (calls.ControllerUnpublishVolume id node) holding = not (holding.volume == id)
is_of_another (calls.NodeStageVolume id capability) holding = true
is_of_another (calls.NodeUnstageVolume id) holding = true
is_of_another (calls.NodePublishVolume id target capability readonly) holding = true
is_of_another (calls.NodeUnpublishVolume id target) holding = true

-- the other volumes and their holdings are as they were
pub record LeavesOthers (old new : ControllerState) (call : Call) : Type 0 where
  pub volumes : filter (λ volume. not (is_row_for call volume)) new.volumes ≡ filter (λ volume. not (is_row_for call volume)) old.volumes
  pub holdings : filter (is_of_another call) new.holdings ≡ filter (is_of_another call) old.holdings

-- the controller, for the laws of its table
abbrev pub plugin_with : Config → PluginMachine ControllerState
plugin_with config =
    record {
      machine = controller_with config;
      reply_at = table_reply config;
      is_same = IsSameApart;
      is_done = IsDone;
      leaves_others = LeavesOthers;
    }

-- the laws, for every state that frames reach and every call that the table answers there
abbrev pub ControllerTableLaw : Type 0
ControllerTableLaw = (config : Config) → TableLaw (plugin_with config) empty_controller
