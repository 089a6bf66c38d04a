-- A row of a node's record by its parts, and what it shows of the state by itself. This profile's own.
use Rattle.std.specs.Prelude.{◌≡◌, ℕ, ◌≤◌, List, [], ◌∷◌, map, find, length, true, Option, Some, None}
use Rattle.csi_types.specs.declared.capability.Capability.{Capability}
use Rattle.csi_types.specs.Public.Call.{is_node_kind}
use Rattle.csi_types.specs.Model.Same.{same_text}
use Rattle.csi_types.specs.Model.Sharing.{allows_one_target}
use Rattle.csi_node.specs.declared.row.NodeTarget.{NodeTarget}
use Rattle.csi_node.specs.Model.State.{NodeState, StagedVolume, PublishedVolume}
use Rattle.csi_node.specs.Model.Table.{begins_with_slash}
use Rattle.csi_node.specs.Model.OneRow.{NodeRowShown}
use Rattle.std.specs.Prelude.{◌≡◌, ℕ, List, [], ◌∷◌, ◌++◌, filter, find, length, true, not, Option, Some, None}
use Rattle.csi_types.specs.declared.call.Call.{Call}
use Rattle.csi_types.specs.declared.call.Call.TheVariants as calls
use Rattle.csi_types.specs.declared.number.Number.{Number}
use Rattle.csi_types.specs.declared.call.Kind.{Kind}
use Rattle.csi_types.specs.Model.Replies.{ok_reply}
use Rattle.csi_types.specs.Model.Same.{same_text}
use Rattle.csi_node.specs.Model.State.{PublishedVolume}
use Rattle.csi_node.specs.Model.Table.{begins_with_slash}

-- how a volume is staged
abbrev pub staged_by : ℕ → Option Capability → List StagedVolume
staged_by id None = []
staged_by id (Some capability) = (record { volume = id; capability = capability }) ∷ []

-- a volume, published at a target in this capability
abbrev pub published_so : ℕ → Capability → NodeTarget → PublishedVolume
published_so id capability target = record { volume = id; target = target.target; capability = capability; readonly = target.readonly }

-- where a volume is published, all in the capability in which it is staged
abbrev pub published_by : ℕ → Option Capability → List NodeTarget → List PublishedVolume
published_by id None targets = []
published_by id (Some capability) targets = map (published_so id capability) targets

-- the state of the row's volume alone, without the row
abbrev pub state_shown : NodeRowShown → NodeState
state_shown row = record { rows = []; session = 0; staged = staged_by row.id row.staged; published = published_by row.id row.staged row.targets }

-- the first of these that is this target
abbrev pub target_among : List NodeTarget → List ℕ → Option NodeTarget
target_among targets target = find (λ there. same_text there.target target) targets

-- no two targets are the same
abbrev pub AreDistinctTargets : List NodeTarget → Type 0
AreDistinctTargets [] = Unit {0}
AreDistinctTargets (target ∷ targets) = (target_among targets target.target ≡ None) × AreDistinctTargets targets

-- each target is a path from the root
abbrev pub AreAbsolute : List NodeTarget → Type 0
AreAbsolute [] = Unit {0}
AreAbsolute (target ∷ targets) = (begins_with_slash target.target ≡ true) × AreAbsolute targets

-- which targets a row may have, by how it is staged
pub record TargetsFit (staged : Option Capability) (targets : List NodeTarget) : Type 0 where
  pub unstaged : staged ≡ None → targets ≡ []
  pub absolute : AreAbsolute targets
  pub distinct : AreDistinctTargets targets
  pub single : (capability : Capability) → staged ≡ Some capability → allows_one_target capability.mode ≡ true → length targets ≤ 1
  pub limit : length targets ≤ 16

-- the rules of a row of a record
pub record IsSoundRow (row : NodeRowShown) : Type 0 where
  pub kind : is_node_kind row.kept.kind ≡ true
  pub no_id : row.kept.reply.id ≡ None
  pub targets : TargetsFit row.staged row.targets

-- the row after a call's change
abbrev pub row_changed : NodeRowShown → Call → NodeRowShown
row_changed row (calls.NodeStageVolume id capability) = record row { staged = Some capability }
row_changed row (calls.NodeUnstageVolume id) = record row { staged = None }
row_changed row (calls.NodePublishVolume id target capability readonly) = record row { targets = row.targets ++ (record { target = target; readonly = readonly }) ∷ [] }
row_changed row (calls.NodeUnpublishVolume id target) = record row { targets = filter (λ there. not (same_text there.target target)) row.targets }
row_changed row (calls.CreateVolume name required limit capabilities) = row
row_changed row (calls.DeleteVolume id) = row
row_changed row (calls.ControllerPublishVolume id node capability readonly) = row
row_changed row (calls.ControllerUnpublishVolume id node) = row

-- the row of a volume before its first call, of this number and kind
abbrev pub row_anew : ℕ → Number → Kind → NodeRowShown
row_anew id number kind = record { id = id; staged = None; targets = []; kept = record { number = number; kind = kind; reply = ok_reply } }
