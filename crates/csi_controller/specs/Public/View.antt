-- A controller seen thing by thing, and what a call that is delivered to it does there: what is safe of a world is
-- told by this alone. This profile's own.
use Rattle.std.specs.Prelude.{◌≡◌, ◌⊎◌, ◌<◌, ◌≤◌, ℕ, true, List, ◌&&◌, find, Option, Some, None, option_map, IsTrue}
use Rattle.csi_types.specs.declared.number.Number.{Number}
use Rattle.csi_types.specs.declared.call.Call.{Call}
use Rattle.csi_types.specs.declared.call.Call.TheVariants as calls
use Rattle.csi_types.specs.declared.call.Party.TheVariants.{Controller}
use Rattle.csi_types.specs.Model.Call.{kind_of}
use Rattle.csi_types.specs.Public.Call.{is_party_of}
use Rattle.csi_types.specs.Model.Config.{Config}
use Rattle.csi_fence.specs.Public.Delivery.{PluginView, view_by, IsDelivered, IsEmpty, IsClosed}
use Rattle.csi_fence.specs.Model.Fence.{Kept}
use Rattle.csi_types.specs.Model.Frame.{Frame}
use Rattle.csi_types.specs.Public.PluginThing.{PluginThing, Exists, Attached, Staged, Published, ThingForm, HasId, AttachedAs}
use Rattle.csi_types.specs.Model.Replies.{call_frame}
use Rattle.csi_types.specs.Model.Same.{same_text}
use Rattle.csi_controller.specs.Model.State.{Volume, ControllerState, empty_controller, volume_named, live_volume, holding_at}
use Rattle.csi_controller.specs.Public.State.{volume_with_id}
use Rattle.csi_controller.specs.Model.Fenced.{fenced}
use Rattle.csi_controller.specs.Public.Fenced.{ConfiguredFrame, after_configured}

-- the live volume of a name
abbrev pub live_named : List ℕ → ControllerState → Option Volume
live_named name state = find (λ volume. same_text volume.name name && volume.is_live) state.volumes

-- how a thing is in a controller; what is staged and published is the nodes'
abbrev pub held_in : ControllerState → PluginThing → Option ThingForm
held_in state (Exists name) = option_map (λ volume. HasId volume.id) (live_named name state)
held_in state (Attached id node) = option_map (λ holding. AttachedAs holding.capability holding.readonly) (holding_at id node state)
held_in state (Staged id node) = None
held_in state (Published id node target) = None

-- what is kept of the last call that was answered for a thing's volume, deleted or not, unless it is forgotten
abbrev pub kept_in_row : ControllerState → PluginThing → Option Kept
kept_in_row state (Exists name) = option_map (λ volume. volume.kept) (volume_named name state)
kept_in_row state (Attached id node) = option_map (λ volume. volume.kept) (volume_with_id id state)
kept_in_row state (Staged id node) = None
kept_in_row state (Published id node target) = None

-- the controller by its things
abbrev pub view_of : ControllerState → PluginView
view_of state = view_by state.session (held_in state) (kept_in_row state)

-- the thing that a call to the controller does or undoes, where the controller has the call's volume
abbrev pub thing_of : ControllerState → Call → Option PluginThing
thing_of state (calls.CreateVolume name required limit capabilities) = Some (Exists name)
thing_of state (calls.DeleteVolume id) = option_map (λ volume. Exists volume.name) (volume_with_id id state)
thing_of state (calls.ControllerPublishVolume id node capability readonly) = option_map (λ volume. Attached id node) (volume_with_id id state)
thing_of state (calls.ControllerUnpublishVolume id node) = option_map (λ volume. Attached id node) (volume_with_id id state)
thing_of state (calls.NodeStageVolume id capability) = None
thing_of state (calls.NodeUnstageVolume id) = None
thing_of state (calls.NodePublishVolume id target capability readonly) = None
thing_of state (calls.NodeUnpublishVolume id target) = None

-- a call is answered by the thing that it has in the state before; or by none, and then its volume isn't there afterwards
abbrev pub IsThingOf : ControllerState → ControllerState → Call → Option PluginThing → Type 0
IsThingOf old new call thing = (thing ≡ thing_of old call) ⊎ ((thing ≡ None) × (thing_of new call ≡ None))

-- a call is delivered to a controller
pub record IsDeliveredTo (config : Config) (state : ControllerState) (number : Number) (call : Call) : Type 0 where
  pub thing : Option PluginThing
  pub is_thing : IsThingOf state (fenced config state (call_frame number Controller call)).state call thing
  pub is_delivered : IsDelivered Controller number call thing (view_of state) (view_of (fenced config state (call_frame number Controller call)).state)
      (fenced config state (call_frame number Controller call)).reply

-- in every state that frames lead to, under whatever configuration each comes, whichever call comes next: it is delivered as the laws
-- say; and a new controller has nothing, and what came before a spent number is spent
pub record ControllerDeliveryLaw : Type 0 where
  pub empty : IsEmpty (view_of empty_controller)
  pub closed : (state : ControllerState) → IsClosed (view_of state)
  pub delivered : (config : Config) (came : List ConfiguredFrame) (number : Number) (call : Call) → IsTrue (is_party_of (kind_of call) Controller)
      → IsDeliveredTo config (after_configured empty_controller came) number call

-- a volume that is found by its name, or live, is found by its id, and the other way round, and its id was given
pub record AreNamed (state : ControllerState) : Type 0 where
  pub by_id : (name : List ℕ) (volume : Volume) → volume_named name state ≡ Some volume → volume_with_id volume.id state ≡ Some volume
  pub by_name : (id : ℕ) (volume : Volume) → volume_with_id id state ≡ Some volume → volume_named volume.name state ≡ Some volume
  pub live : (name : List ℕ) (volume : Volume) → live_named name state ≡ Some volume → volume_named name state ≡ Some volume
  pub live_id : (id : ℕ) (volume : Volume) → live_volume id state ≡ Some volume → volume_with_id id state ≡ Some volume
  pub given : (id : ℕ) (volume : Volume) → volume_with_id id state ≡ Some volume → id < state.next_id

-- a volume of this id and name is there
pub record HasVolume (state : ControllerState) (volume : Volume) : Type 0 where
  pub there : Volume
  pub is_found : volume_with_id volume.id state ≡ Some there
  pub same_name : there.name ≡ volume.name

-- the volume was made: it is live, under the id that was the next one, and no live volume had its name
pub record WasMade (old : ControllerState) (volume : Volume) : Type 0 where
  pub has_next : volume.id ≡ old.next_id
  pub is_live : volume.is_live ≡ true
  pub was_free : live_named volume.name old ≡ None

-- the next id only grows; each volume was there under its id and name, or was made; one that was live stays under them, if only as one
-- that is deleted now; and an id that was given and has no live volume never has one again
pub record KeepsNames (old new : ControllerState) : Type 0 where
  pub grows : old.next_id ≤ new.next_id
  pub comes : (id : ℕ) (volume : Volume) → volume_with_id id new ≡ Some volume → HasVolume old volume ⊎ WasMade old volume
  pub stays : (id : ℕ) (volume : Volume) → volume_with_id id old ≡ Some volume → volume.is_live ≡ true → HasVolume new volume
  pub stays_ended : (id : ℕ) → id < old.next_id → live_volume id old ≡ None → live_volume id new ≡ None

-- in every state that frames lead to, under whatever configuration each comes, names and ids belong together; and they do so as
-- before, whatever frame comes
pub record ControllerNamesLaw : Type 0 where
  pub named : (came : List ConfiguredFrame) → AreNamed (after_configured empty_controller came)
  pub keeps_names : (config : Config) (came : List ConfiguredFrame) (frame : Frame)
      → KeepsNames (after_configured empty_controller came) (fenced config (after_configured empty_controller came) frame).state
