-- The node's table: what it answers to a call that it carries out, and what changes. CSI's spec.md,
-- "NodeStageVolume", "NodeUnstageVolume", "NodePublishVolume" and "NodeUnpublishVolume", their error tables
-- and what they say of calls that come again. The limits and the details are this profile's own.
use Rattle.std.specs.Prelude.{ℕ, ◌==◌, List, [], ◌∷◌, ◌++◌, filter, length, Bool, false, not, ◌&&◌, nat_le, Option, Some, None, is_none, if◌then◌else◌, codes}
use Rattle.csi_types.specs.declared.rows.TheConstants.{MAX_ROWS}
use Rattle.csi_types.specs.declared.capability.Capability.{Capability}
use Rattle.csi_types.specs.declared.call.Call.{Call}
use Rattle.csi_types.specs.declared.call.Call.TheVariants as calls
use Rattle.csi_types.specs.declared.status.Status.{Status}
use Rattle.csi_types.specs.declared.status.Status.TheVariants.{InvalidArgument, AlreadyExists, ResourceExhausted, FailedPrecondition, Unimplemented}
use Rattle.csi_types.specs.declared.reply.Reply.{Reply}
use Rattle.csi_types.specs.Model.Replies.{plain_reply, ok_reply}
use Rattle.csi_types.specs.Model.Same.{same_capability, same_flag}
use Rattle.csi_types.specs.Model.Sharing.{allows_one_target}
use Rattle.csi_node.specs.Model.State.{NodeState, StagedVolume, PublishedVolume, staged_of, published_of, published_at, is_published_at, row_for}

-- what a call changes: nothing, or one thing
pub data Change : Type 0 where
  Stays : Change
  Stages : (staged : StagedVolume) → Change
  Unstages : (id : ℕ) → Change
  Publishes : (published : PublishedVolume) → Change
  Unpublishes : (id : ℕ) (target : List ℕ) → Change

-- what the table answers, and what changes
pub record Outcome : Type 0 where
  pub reply : Reply
  pub change : Change

-- a status other than OK changes nothing
abbrev pub refused : Status → List ℕ → Outcome
refused status detail = record { reply = plain_reply status detail; change = Stays }

-- done already
abbrev pub met : Outcome
met = record { reply = ok_reply; change = Stays }

-- carried out, with this change
abbrev pub done : Change → Outcome
done change = record { reply = ok_reply; change = change }

-- the target is a path from the root
abbrev pub begins_with_slash : List ℕ → Bool
begins_with_slash [] = false
begins_with_slash (byte ∷ bytes) = byte == 47

-- by how the volume is staged
abbrev pub stage : StagedVolume → Option Capability → Outcome
stage staged None = done (Stages staged)
stage staged (Some capability) =
    if same_capability capability staged.capability then met else refused AlreadyExists (codes "staged otherwise")

-- by where the volume is published
abbrev pub unstage : ℕ → List PublishedVolume → Outcome
unstage id (published ∷ others) = refused FailedPrecondition published.target
unstage id [] = done (Unstages id)

-- at a new target, by where else the volume is published
abbrev pub publish_new : PublishedVolume → List PublishedVolume → Outcome
publish_new published [] = done (Publishes published)
publish_new published (first ∷ others) =
    if allows_one_target published.capability.mode then refused FailedPrecondition first.target
    else if nat_le 16 (length (first ∷ others)) then refused ResourceExhausted (codes "targets")
    else done (Publishes published)

-- at a new target, by how the volume is staged
abbrev pub publish_staged : NodeState → PublishedVolume → Option Capability → Outcome
publish_staged state published None = refused FailedPrecondition (codes "not staged")
publish_staged state published (Some capability) =
    if not (same_capability capability published.capability) then refused FailedPrecondition (codes "staged otherwise")
    else publish_new published (published_of published.volume state)

-- by what is published at the target
abbrev pub publish_at_target : NodeState → PublishedVolume → Option PublishedVolume → Outcome
publish_at_target state published (Some there) =
    if same_capability there.capability published.capability && same_flag there.readonly published.readonly then met
    else refused AlreadyExists (codes "published otherwise")
publish_at_target state published None = publish_staged state published (staged_of published.volume state)

-- NodePublishVolume, by its target
abbrev pub publish : NodeState → PublishedVolume → Outcome
publish state published =
    if not (begins_with_slash published.target) then refused InvalidArgument (codes "target")
    else publish_at_target state published (published_at published.volume published.target state)

-- NodeUnpublishVolume, by what is published at the target
abbrev pub unpublish : ℕ → List ℕ → Option PublishedVolume → Outcome
unpublish id target (Some there) = done (Unpublishes id target)
unpublish id target None = met

-- the table for a volume that has a row, or can have one. A controller's call never comes here: no frame has
-- one for a node
abbrev pub lifecycle_row : NodeState → Call → Outcome
lifecycle_row state (calls.NodeStageVolume id capability) = stage (record { volume = id; capability = capability }) (staged_of id state)
lifecycle_row state (calls.NodeUnstageVolume id) = unstage id (published_of id state)
lifecycle_row state (calls.NodePublishVolume id target capability readonly) =
    publish state (record { volume = id; target = target; capability = capability; readonly = readonly })
lifecycle_row state (calls.NodeUnpublishVolume id target) = unpublish id target (published_at id target state)
lifecycle_row state (calls.CreateVolume name required limit capabilities) = refused Unimplemented []
lifecycle_row state (calls.DeleteVolume id) = refused Unimplemented []
lifecycle_row state (calls.ControllerPublishVolume id node capability readonly) = refused Unimplemented []
lifecycle_row state (calls.ControllerUnpublishVolume id node) = refused Unimplemented []

-- the call's volume has no row, and there is no room for one
abbrev pub has_no_room : NodeState → Call → Bool
has_no_room state call = is_none (row_for call state) && nat_le MAX_ROWS (length state.rows)

-- the table
abbrev pub node_row : NodeState → Call → Outcome
node_row state call = if has_no_room state call then refused ResourceExhausted (codes "rows") else lifecycle_row state call

-- the state after a change
abbrev pub changed : NodeState → Change → NodeState
changed state Stays = state
changed state (Stages staged) = record state { staged = state.staged ++ staged ∷ [] }
changed state (Unstages id) = record state { staged = filter (λ staged. not (staged.volume == id)) state.staged }
changed state (Publishes published) = record state { published = state.published ++ published ∷ [] }
changed state (Unpublishes id target) =
    record state { published = filter (λ published. not (is_published_at id target published)) state.published }
