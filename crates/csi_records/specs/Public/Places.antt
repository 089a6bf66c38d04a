-- The bytes of a whole record, and the place of the first part that is refused in bytes that are none. This profile's own.
use Rattle.std.specs.Prelude.{◌≡◌, ◌≢◌, ◌⊎◌, ℕ, ◌<◌, ◌≤◌, ◌^◌, List, [], ◌∷◌, ◌++◌, length, Result, Ok, Err}
use Rattle.std.specs.List.{flat_map}
use Rattle.csi_records.specs.declared.fault.RecordStop.{RecordStop}
use Rattle.csi_records.specs.declared.fault.RecordStop.TheVariants.{BadRecord, NoMemory}
use Rattle.csi_records.specs.declared.stored.Stored.{Stored}
use Rattle.csi_records.specs.declared.version.RecordVersion.{RecordVersion}
use Rattle.csi_stores.specs.Public.Part.{StoredPart, IsPart}
use Rattle.csi_records.specs.Public.Spelling.{part_bytes, record_head, record_bytes}
use Rattle.csi_records.specs.Public.Records.{IsInSome, Begins, IsRefusedAt}

-- bytes that are no record are refused at this place
pub data IsBadAt (Is : RecordVersion → List StoredPart → Type 0) (bytes : List ℕ) : ℕ → Type 0 where
  -- no version and number of parts, from 1 on, stand in front
  no_head : ((version : RecordVersion) (count : ℕ) (rest : List ℕ) → 1 ≤ count → count < 2 ^ 32 → bytes ≡ record_head version count ++ rest → ⊥) → IsBadAt Is bytes 0
  -- a front of the parts is there, and is allowed in the version that stands in front, and no part that is allowed behind it comes next
  bad_part : (version : RecordVersion) (count : ℕ) (before : List StoredPart) (rest : List ℕ) → count < 2 ^ 32 → length before < count → bytes ≡ record_head version count ++ flat_map part_bytes before ++ rest → Begins (Is version) before
      → ((part : StoredPart) (more : List ℕ) → IsPart part → rest ≡ part_bytes part ++ more → Is version (before ++ part ∷ []) → ⊥) → IsBadAt Is bytes (length before)
  -- a whole record is there, and more bytes behind it
  more_bytes : (version : RecordVersion) (parts : List StoredPart) (rest : List ℕ) → Is version parts → rest ≢ [] → bytes ≡ record_bytes version parts ++ rest → IsBadAt Is bytes (length parts)

-- what reading parts of one version answers: the record that they are read as, or the first that is refused; where there are none, that is 0
abbrev pub ReadsParts : {X : Type 0} → (List StoredPart → Type 0) → (List StoredPart → X → Type 0) → List StoredPart → Result X RecordStop → Type 0
ReadsParts Are AreOf parts (Ok made) = Are parts × AreOf parts made
ReadsParts Are AreOf parts (Err (BadRecord place)) = ((parts ≡ []) × (place ≡ 0)) ⊎ IsRefusedAt Are parts place
ReadsParts Are AreOf parts (Err NoMemory) = Unit {0}

-- the same of any version: the version that they are of and the record that they are read as, or the first that is refused in a record of any
-- version
abbrev pub ReadsStored : {X : Type 0} → (RecordVersion → List StoredPart → Type 0) → (RecordVersion → List StoredPart → X → Type 0) → List StoredPart → Result (Stored X) RecordStop → Type 0
ReadsStored Are AreOf parts (Ok made) = Are made.version parts × AreOf made.version parts made.kept
ReadsStored Are AreOf parts (Err (BadRecord place)) = ((parts ≡ []) × (place ≡ 0)) ⊎ IsRefusedAt (IsInSome Are) parts place
ReadsStored Are AreOf parts (Err NoMemory) = Unit {0}

-- these bytes are parts of the version, which are read as this record
pub record AreBytesOf {X : Type 0} (Are : RecordVersion → List StoredPart → Type 0) (AreOf : RecordVersion → List StoredPart → X → Type 0) (version : RecordVersion) (bytes : List ℕ) (kept : X) : Type 0 where
  pub parts : List StoredPart
  pub are : Are version parts
  pub tell : AreOf version parts kept
  pub spelled : bytes ≡ record_bytes version parts

-- what reading bytes answers: the record and the version that they are, or the place of the first part that is refused
abbrev pub ReadsBytes : {X : Type 0} → (RecordVersion → List StoredPart → Type 0) → (RecordVersion → List StoredPart → X → Type 0) → List ℕ → Result (Stored X) RecordStop → Type 0
ReadsBytes Are AreOf bytes (Ok made) = AreBytesOf Are AreOf made.version bytes made.kept
ReadsBytes Are AreOf bytes (Err (BadRecord place)) = IsBadAt Are bytes place
ReadsBytes Are AreOf bytes (Err NoMemory) = Unit {0}
