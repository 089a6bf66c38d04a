-- A row of a node's record by its parts, and what it shows of the state by itself. This profile's own.
use Rattle.std.specs.Prelude.{◌≡◌, ℕ, ◌<◌, List, [], find, length, true, not, ◌&&◌, if◌then◌else◌, Option, Some, None, codes}
use Rattle.csi_types.specs.declared.capability.Capability.{Capability}
use Rattle.csi_types.specs.declared.call.Call.{Call}
use Rattle.csi_types.specs.declared.call.Call.TheVariants as calls
use Rattle.csi_types.specs.declared.status.Status.TheVariants.{AlreadyExists, FailedPrecondition}
use Rattle.csi_types.specs.Model.Same.{same_text, same_capability, same_flag}
use Rattle.csi_types.specs.Model.Sharing.{allows_one_target}
use Rattle.csi_node.specs.declared.row.NodeTarget.{NodeTarget}
use Rattle.csi_node.specs.Model.State.{PublishedVolume}
use Rattle.csi_node.specs.Model.Table.{Change, Stays, Stages, Unstages, Publishes, Unpublishes, Outcome, refused, met, done, publish_new, begins_with_slash}
use Rattle.csi_node.specs.Model.OneRow.{NodeRowShown}
use Rattle.csi_node.specs.Public.OneRow.{published_by}

-- how the row's volume is published at a target, if it is
abbrev pub target_of_row : NodeRowShown → List ℕ → Option NodeTarget
target_of_row row target = find (λ there. same_text there.target target) row.targets

-- the table's lines for NodePublishVolume at an absolute target, of a volume that is staged so, by how the row
-- has the target
abbrev pub publish_by_row : NodeRowShown → Capability → PublishedVolume → Option NodeTarget → Outcome
publish_by_row row staged published (Some there) =
    if same_capability staged published.capability && same_flag there.readonly published.readonly then met
    else refused AlreadyExists (codes "published otherwise")
publish_by_row row staged published None =
    if not (same_capability staged published.capability) then refused FailedPrecondition (codes "staged otherwise")
    else publish_new published (published_by row.id (Some staged) row.targets)

-- the table's lines for NodeUnpublishVolume, by how the row has the target
abbrev pub unpublish_by_row : ℕ → List ℕ → Option NodeTarget → Outcome
unpublish_by_row id target (Some there) = done (Unpublishes id target)
unpublish_by_row id target None = met

-- what a call changes that the table carries out
abbrev pub call_change : Call → Change
call_change (calls.NodeStageVolume id capability) = Stages (record { volume = id; capability = capability })
call_change (calls.NodeUnstageVolume id) = Unstages id
call_change (calls.NodePublishVolume id target capability readonly) = Publishes (record { volume = id; target = target; capability = capability; readonly = readonly })
call_change (calls.NodeUnpublishVolume id target) = Unpublishes id target
call_change (calls.CreateVolume name required limit capabilities) = Stays
call_change (calls.DeleteVolume id) = Stays
call_change (calls.ControllerPublishVolume id node capability readonly) = Stays
call_change (calls.ControllerUnpublishVolume id node) = Stays

-- a volume can be published at this new target
pub record HasRoomFor (row : NodeRowShown) (target : List ℕ) (capability : Capability) : Type 0 where
  pub staged : row.staged ≡ Some capability
  pub absolute : begins_with_slash target ≡ true
  pub «new» : target_of_row row target ≡ None
  pub single : allows_one_target capability.mode ≡ true → row.targets ≡ []
  pub limit : length row.targets < 16

-- the call's change can be made to the row
abbrev pub CanChange : NodeRowShown → Call → Type 0
CanChange row (calls.NodeStageVolume id capability) = row.staged ≡ None
CanChange row (calls.NodeUnstageVolume id) = row.targets ≡ []
CanChange row (calls.NodePublishVolume id target capability readonly) = HasRoomFor row target capability
CanChange row (calls.NodeUnpublishVolume id target) = Unit {0}
CanChange row (calls.CreateVolume name required limit capabilities) = ⊥
CanChange row (calls.DeleteVolume id) = ⊥
CanChange row (calls.ControllerPublishVolume id node capability readonly) = ⊥
CanChange row (calls.ControllerUnpublishVolume id node) = ⊥
