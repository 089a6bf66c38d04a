-- What each version of frames has. Whatever tells one version from another stands here. This profile's own.
use Rattle.std.specs.Prelude.{ℕ, zero, suc, Bool, true, false, not, ◌&&◌, if◌then◌else◌, Option, Some, None}
use Rattle.csi_types.specs.declared.mode.Mode.{Mode}
use Rattle.csi_types.specs.declared.mode.Mode.TheVariants.{SingleNodeWriter, SingleNodeReaderOnly, MultiNodeReaderOnly, MultiNodeSingleWriter, MultiNodeMultiWriter, SingleNodeSingleWriter, SingleNodeMultiWriter}
use Rattle.csi_types.specs.Public.Mode.{mode_from_number}
use Rattle.csi_types.specs.declared.call.Kind.TheVariants as kinds
use Rattle.csi_frames.specs.declared.body_kind.BodyKind.{BodyKind}
use Rattle.csi_frames.specs.declared.body_kind.BodyKind.TheVariants.{Call, Reply}
use Rattle.csi_frames.specs.declared.version.Version.{Version}
use Rattle.csi_frames.specs.declared.version.Version.TheVariants.{One, Two}
use Rattle.csi_frames.specs.Public.Kinds.{body_kind_from_number}

-- the byte that stands for the version
abbrev pub version_number : Version → ℕ
version_number One = 1
version_number Two = 2

-- the version of a number, if it has one
abbrev pub version_from_number : ℕ → Option Version
version_from_number zero = None
version_from_number (suc zero) = Some One
version_from_number (suc (suc zero)) = Some Two
version_from_number (suc (suc (suc n))) = None

-- a capability may be in this mode
abbrev pub has_mode : Version → Mode → Bool
has_mode One SingleNodeWriter = true
has_mode One SingleNodeReaderOnly = true
has_mode One MultiNodeReaderOnly = true
has_mode One MultiNodeSingleWriter = true
has_mode One MultiNodeMultiWriter = true
has_mode One SingleNodeSingleWriter = false
has_mode One SingleNodeMultiWriter = false
has_mode Two mode = true

-- the first version doesn't have the mode
abbrev pub is_new_mode : Mode → Bool
is_new_mode mode = not (has_mode One mode)

-- a frame may be a call of this kind, or a reply to one: in the second version a call that has capabilities
abbrev pub has_kind : Version → BodyKind → Bool
has_kind One kind = true
has_kind Two (Call kinds.CreateVolume) = true
has_kind Two (Call kinds.DeleteVolume) = false
has_kind Two (Call kinds.ControllerPublishVolume) = true
has_kind Two (Call kinds.ControllerUnpublishVolume) = false
has_kind Two (Call kinds.NodeStageVolume) = true
has_kind Two (Call kinds.NodeUnstageVolume) = false
has_kind Two (Call kinds.NodePublishVolume) = true
has_kind Two (Call kinds.NodeUnpublishVolume) = false
has_kind Two (Reply kind) = false

-- the fewest capabilities of a CreateVolume
abbrev pub least_count : Version → ℕ
least_count One = 0
least_count Two = 1

-- a frame owes a capability in a new mode: its last one is in such a mode, where no earlier one is
abbrev pub owes_new_mode : Version → Bool
owes_new_mode One = false
owes_new_mode Two = true

-- the version in which a frame is written, by whether one of its capabilities is in a new mode; so each frame has one version
abbrev pub version_with : Bool → Version
version_with false = One
version_with true = Two

-- ---- what bytes stand for in a version

-- what is there, if it passes the test
abbrev pub only : {A : Type 0} → (A → Bool) → Option A → Option A
only test (Some value) = if test value then Some value else None
only test None = None

-- a capability may be in this mode where a new one is owed, or isn't
abbrev pub takes_mode : Version → Bool → Mode → Bool
takes_mode version owed mode = if owed then has_mode version mode && is_new_mode mode else has_mode version mode

-- the mode of a number that the version has, where a new one is owed or isn't
abbrev pub mode_in : Version → Bool → ℕ → Option Mode
mode_in version owed n = only (takes_mode version owed) (mode_from_number n)

-- the kind of body of a number that the version has
abbrev pub kind_in_version : Version → ℕ → Option BodyKind
kind_in_version version n = only (has_kind version) (body_kind_from_number n)
