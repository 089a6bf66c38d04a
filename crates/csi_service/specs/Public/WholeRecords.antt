-- What reading a whole record answers. This profile's own.
use Rattle.std.specs.Prelude.{ℕ, List, Result, Ok, Err}
use Rattle.csi_records.specs.Public.Places.{IsBadAt, AreBytesOf}
use Rattle.csi_records.specs.declared.version.RecordVersion.{RecordVersion}
use Rattle.csi_stores.specs.declared.keep.KeepFault.{KeepFault}
use Rattle.csi_stores.specs.declared.keep.KeepFault.TheVariants.{Device, NoMemory, BadRecord, Full}
use Rattle.csi_stores.specs.Public.Part.{StoredPart}

-- the record that these bytes are read as in some version, or the place of the first part that is refused
abbrev pub ReadsRecord : {X : Type 0} → (RecordVersion → List StoredPart → Type 0) → (RecordVersion → List StoredPart → X → Type 0) → List ℕ → Result X KeepFault → Type 0
ReadsRecord Are AreOf bytes (Ok made) = (version : RecordVersion) × AreBytesOf Are AreOf version bytes made
ReadsRecord Are AreOf bytes (Err Device) = ⊥
ReadsRecord Are AreOf bytes (Err NoMemory) = Unit {0}
ReadsRecord Are AreOf bytes (Err (BadRecord place)) = IsBadAt Are bytes place
ReadsRecord Are AreOf bytes (Err Full) = ⊥
