-- What each version of records has. Whatever tells one version from another stands here. This profile's own.
use Rattle.std.specs.Prelude.{ℕ, zero, suc, Option, Some, None}
use Rattle.csi_records.specs.declared.version.RecordVersion.{RecordVersion}
use Rattle.csi_records.specs.declared.version.RecordVersion.TheVariants.{One, Two, Three}

-- the version of a number, if it has one
abbrev pub record_version_from_number : ℕ → Option RecordVersion
record_version_from_number zero = None
record_version_from_number (suc zero) = Some One
record_version_from_number (suc (suc zero)) = Some Two
record_version_from_number (suc (suc (suc zero))) = Some Three
record_version_from_number (suc (suc (suc (suc n)))) = None
