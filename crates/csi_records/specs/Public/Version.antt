-- What each version of records has. Whatever tells one version from another stands here. This profile's own.
use Rattle.std.specs.Prelude.{ℕ, Bool, true, false}
use Rattle.csi_frames.specs.declared.version.Version.{Version}
use Rattle.csi_frames.specs.declared.version.Version.TheVariants as frames
use Rattle.csi_records.specs.declared.version.RecordVersion.{RecordVersion}
use Rattle.csi_records.specs.declared.version.RecordVersion.TheVariants.{One, Two, Three}

-- the byte that stands for the version
abbrev pub record_version_number : RecordVersion → ℕ
record_version_number One = 1
record_version_number Two = 2
record_version_number Three = 3

-- the version of frames that has the same modes
abbrev pub modes_of : RecordVersion → Version
modes_of One = frames.One
modes_of Two = frames.Two
modes_of Three = frames.Two

-- its head has the greatest session that came
abbrev pub has_session : RecordVersion → Bool
has_session One = false
has_session Two = false
has_session Three = true
