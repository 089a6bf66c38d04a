-- What the bytes that stand for one of a few values stand for. This profile's own.
use Rattle.std.specs.Prelude.{ℕ, Bool, is_some, unwrap_or}
use Rattle.csi_types.specs.declared.mode.Mode.{Mode}
use Rattle.csi_types.specs.declared.mode.Mode.TheVariants.{SingleNodeWriter}
use Rattle.csi_types.specs.declared.status.Status.{Status}
use Rattle.csi_types.specs.declared.status.Status.TheVariants as statuses
use Rattle.csi_types.specs.declared.call.Kind.{Kind}
use Rattle.csi_types.specs.declared.call.Kind.TheVariants as kinds
use Rattle.csi_frames.specs.declared.body_kind.BodyKind.{BodyKind}
use Rattle.csi_frames.specs.declared.body_kind.BodyKind.TheVariants.{Call, Reply}
use Rattle.csi_types.specs.Public.Mode.{mode_from_number}
use Rattle.csi_types.specs.Public.Status.{status_from_code}
use Rattle.csi_frames.specs.declared.version.Version.{Version}
use Rattle.csi_frames.specs.declared.version.Version.TheVariants.{One}
use Rattle.csi_frames.specs.Public.Kinds.{body_kind_from_number}
use Rattle.csi_frames.specs.Public.Version.{version_from_number, mode_in, kind_in_version}

-- A byte that isn't allowed is nobody's number: what it stands for is any value.
abbrev pub is_version : ℕ → Bool
is_version n = is_some (version_from_number n)

-- the version that a byte stands for
abbrev pub version_of : ℕ → Version
version_of n = unwrap_or (version_from_number n) One

-- the version has a mode of this byte, where a new one is owed or isn't
abbrev pub is_mode : Version → Bool → ℕ → Bool
is_mode version owed n = is_some (mode_in version owed n)

-- the mode that a byte stands for
abbrev pub mode_of : ℕ → Mode
mode_of n = unwrap_or (mode_from_number n) SingleNodeWriter

-- a status has this code
abbrev pub is_status : ℕ → Bool
is_status n = is_some (status_from_code n)

-- the status that a byte stands for
abbrev pub status_of : ℕ → Status
status_of n = unwrap_or (status_from_code n) statuses.Ok

-- the kind of the calls, or of those replied to
abbrev pub kind_in : BodyKind → Kind
kind_in (Call kind) = kind
kind_in (Reply kind) = kind

-- the version has a kind of body of this number
abbrev pub is_body_kind : Version → ℕ → Bool
is_body_kind version n = is_some (kind_in_version version n)

-- the kind of body that a byte stands for
abbrev pub body_kind_of : ℕ → BodyKind
body_kind_of n = unwrap_or (body_kind_from_number n) (Call kinds.CreateVolume)
