-- A node seen thing by thing, and what a call that is delivered to it does there: what is safe of a world is told by
-- this alone. This profile's own.
use Rattle.std.specs.Prelude.{◌≡◌, ℕ, List, Option, Some, None, option_map, if◌then◌else◌, IsTrue}
use Rattle.csi_types.specs.declared.number.Number.{Number}
use Rattle.csi_types.specs.declared.call.Call.{Call}
use Rattle.csi_types.specs.declared.call.Call.TheVariants as calls
use Rattle.csi_types.specs.declared.call.Party.TheVariants.{Node}
use Rattle.csi_types.specs.Model.Call.{kind_of}
use Rattle.csi_types.specs.Public.Call.{is_party_of}
use Rattle.csi_fence.specs.Public.Delivery.{PluginView, view_by, IsDelivered, IsEmpty, IsClosed}
use Rattle.csi_fence.specs.Model.Fence.{Kept}
use Rattle.csi_types.specs.Model.Frame.{Frame}
use Rattle.csi_types.specs.Public.PluginThing.{PluginThing, Exists, Attached, Staged, Published, ThingForm, StagedAs, PublishedAs}
use Rattle.csi_types.specs.Model.Members.{IsAmong}
use Rattle.csi_types.specs.Model.Replies.{call_frame}
use Rattle.csi_types.specs.Model.Same.{same_text}
use Rattle.csi_node.specs.Model.State.{NodeState, StagedVolume, joined_node, row_with_id, staged_of, published_at}
use Rattle.csi_node.specs.Model.Fenced.{fenced}
use Rattle.csi_node.specs.Public.Fenced.{after_frames}

-- how a thing is on this node; volumes and where they are attached are the controller's
abbrev pub held_on : List ℕ → NodeState → PluginThing → Option ThingForm
held_on node state (Exists name) = None
held_on node state (Attached id there) = None
held_on node state (Staged id there) = if same_text there node then option_map StagedAs (staged_of id state) else None
held_on node state (Published id there target) =
    if same_text there node then option_map (λ published. PublishedAs published.capability published.readonly) (published_at id target state) else None

-- what is kept in a volume's row
abbrev pub kept_in_row : ℕ → NodeState → Option Kept
kept_in_row id state = option_map (λ row. row.kept) (row_with_id id state)

-- what is kept of the last call that was answered for a thing's volume
abbrev pub kept_on : List ℕ → NodeState → PluginThing → Option Kept
kept_on node state (Exists name) = None
kept_on node state (Attached id there) = None
kept_on node state (Staged id there) = if same_text there node then kept_in_row id state else None
kept_on node state (Published id there target) = if same_text there node then kept_in_row id state else None

-- the node by its things
abbrev pub view_of : List ℕ → NodeState → PluginView
view_of node state = view_by state.session (held_on node state) (kept_on node state)

-- the thing that a call to this node does or undoes
abbrev pub thing_of : List ℕ → Call → Option PluginThing
thing_of node (calls.CreateVolume name required limit capabilities) = None
thing_of node (calls.DeleteVolume id) = None
thing_of node (calls.ControllerPublishVolume id there capability readonly) = None
thing_of node (calls.ControllerUnpublishVolume id there) = None
thing_of node (calls.NodeStageVolume id capability) = Some (Staged id node)
thing_of node (calls.NodeUnstageVolume id) = Some (Staged id node)
thing_of node (calls.NodePublishVolume id target capability readonly) = Some (Published id node target)
thing_of node (calls.NodeUnpublishVolume id target) = Some (Published id node target)

-- a call is delivered to a node
abbrev pub IsDeliveredTo : List ℕ → NodeState → Number → Call → Type 0
IsDeliveredTo node state number call =
    IsDelivered (Node node) number call (thing_of node call) (view_of node state) (view_of node (fenced node state (call_frame number (Node node) call)).state)
    (fenced node state (call_frame number (Node node) call)).reply

-- a node that has answered nothing, and heard of no session
abbrev pub empty_node : NodeState
empty_node = joined_node 0

-- in every state that frames lead to, whichever call comes next: it is delivered as the laws say, and each staged volume
-- is found as it is staged; and a node that has heard of nothing has nothing, and what came before a spent number is spent
pub record NodeDeliveryLaw : Type 0 where
  pub empty : (node : List ℕ) → IsEmpty (view_of node empty_node)
  pub closed : (node : List ℕ) (state : NodeState) → IsClosed (view_of node state)
  pub delivered : (node : List ℕ) (session : ℕ) (frames : List Frame) (number : Number) (call : Call) → IsTrue (is_party_of (kind_of call) (Node node))
      → IsDeliveredTo node (after_frames node (joined_node session) frames) number call
  pub found : (node : List ℕ) (session : ℕ) (frames : List Frame) (staged : StagedVolume) → IsAmong staged (after_frames node (joined_node session) frames).staged
      → staged_of staged.volume (after_frames node (joined_node session) frames) ≡ Some staged.capability
