-- What a node plugin knows: which volumes are staged there, and which targets they are published at. CSI's
-- spec.md, "Volume Lifecycle"; what is kept of the last call is this profile's own.
use Rattle.std.specs.Prelude.{ℕ, ◌==◌, List, [], filter, find, Bool, ◌&&◌, Option, Some, None, option_map}
use Rattle.csi_types.specs.declared.capability.Capability.{Capability}
use Rattle.csi_types.specs.declared.call.Call.{Call}
use Rattle.csi_types.specs.declared.call.Call.TheVariants as calls
use Rattle.csi_types.specs.Model.Same.{same_text}
use Rattle.csi_fence.specs.Model.Fence.{Kept}

-- a volume for which a call was answered, and what is kept of the last one
pub record AnsweredVolume : Type 0 where
  pub id : ℕ
  pub kept : Kept

-- a volume that is staged, and in which capability
pub record StagedVolume : Type 0 where
  pub volume : ℕ
  pub capability : Capability

-- a volume that is published at a target, and how
pub record PublishedVolume : Type 0 where
  pub volume : ℕ
  pub target : List ℕ
  pub capability : Capability
  pub readonly : Bool

-- the rows, the greatest session that it heard of (at its joining or by a call; 0 before any), what is staged, and all that is
-- published, of all volumes, the newest last. The row of a volume that isn't staged is forgotten where a later session begins
pub record NodeState : Type 0 where
  pub rows : List AnsweredVolume
  pub session : ℕ
  pub staged : List StagedVolume
  pub published : List PublishedVolume

-- a node that has answered nothing, and heard of this session when it joined
abbrev pub joined_node : ℕ → NodeState
joined_node session = record { rows = []; session = session; staged = []; published = [] }

-- a volume's row, if it has one
abbrev pub row_with_id : ℕ → NodeState → Option AnsweredVolume
row_with_id id state = find (λ row. row.id == id) state.rows

-- the capability in which a volume is staged, if it is
abbrev pub staged_of : ℕ → NodeState → Option Capability
staged_of id state = option_map (λ staged. staged.capability) (find (λ staged. staged.volume == id) state.staged)

-- where a volume is published, in the order in which it was
abbrev pub published_of : ℕ → NodeState → List PublishedVolume
published_of id state = filter (λ published. published.volume == id) state.published

-- this volume, published at this target
abbrev pub is_published_at : ℕ → List ℕ → PublishedVolume → Bool
is_published_at id target published = (published.volume == id) && same_text published.target target

-- how the volume is published at the target, if it is
abbrev pub published_at : ℕ → List ℕ → NodeState → Option PublishedVolume
published_at id target state = find (is_published_at id target) state.published

-- the volume that a call is about; CreateVolume names none by id
abbrev pub volume_of : Call → Option ℕ
volume_of (calls.CreateVolume name required limit capabilities) = None
volume_of (calls.DeleteVolume id) = Some id
volume_of (calls.ControllerPublishVolume id node capability readonly) = Some id
volume_of (calls.ControllerUnpublishVolume id node) = Some id
volume_of (calls.NodeStageVolume id capability) = Some id
volume_of (calls.NodeUnstageVolume id) = Some id
volume_of (calls.NodePublishVolume id target capability readonly) = Some id
volume_of (calls.NodeUnpublishVolume id target) = Some id

-- the row of the volume that a call is about, if it has one
abbrev pub row_of_volume : Option ℕ → NodeState → Option AnsweredVolume
row_of_volume None state = None
row_of_volume (Some id) state = row_with_id id state

-- the row of the call's volume, if it has one
abbrev pub row_for : Call → NodeState → Option AnsweredVolume
row_for call state = row_of_volume (volume_of call) state
