-- Laws of records: parts tell the record, and bytes are read in one way. This profile's own.
use Rattle.std.specs.Prelude.{◌≡◌, ◌++◌, ℕ, List, Option}
use Rattle.csi_records.specs.declared.version.RecordVersion.{RecordVersion}
use Rattle.csi_stores.specs.Public.Part.{StoredPart}
use Rattle.csi_records.specs.Public.Spelling.{record_bytes}
use Rattle.csi_records.specs.Public.Records.{Layout, AreParts, IsRecordOf, IsInSome, IsRefusedAt, controller_layout, node_layout}
use Rattle.csi_records.specs.Public.OrchestratorRecords.{orchestrator_layout}
use Rattle.csi_records.specs.Public.Places.{IsBadAt}

-- equal parts mean equal records of one version
abbrev pub PartsTell : {H R : Type 0} → (RecordVersion → Layout H R) → Type 0
PartsTell {H} {R} layouts =
    (version another : RecordVersion) (first other : H) (rows others : List R) (parts : List StoredPart) → AreParts (layouts version) first rows parts → AreParts (layouts another) other others parts
    → (version ≡ another) × (first ≡ other) × (rows ≡ others)

-- the bytes of a record have no part that is refused; other bytes have one such place at most
pub record HasOneReading (Is : RecordVersion → List StoredPart → Type 0) (bytes : List ℕ) : Type 0 where
  pub spelled : (version : RecordVersion) (parts : List StoredPart) (place : ℕ) → Is version parts → bytes ≡ record_bytes version parts → IsBadAt Is bytes place → ⊥
  pub one_record : (version another : RecordVersion) (parts others : List StoredPart) → Is version parts → Is another others → bytes ≡ record_bytes version parts → bytes ≡ record_bytes another others
      → (version ≡ another) × (parts ≡ others)
  pub one_place : (a b : ℕ) → IsBadAt Is bytes a → IsBadAt Is bytes b → a ≡ b

-- a record, of whatever version, has no part that is refused; other parts have one first such part at most
pub record HasOneRefusal (Is : List StoredPart → Type 0) (parts : List StoredPart) : Type 0 where
  pub none : (place : ℕ) → Is parts → IsRefusedAt Is parts place → ⊥
  pub one_place : (a b : ℕ) → IsRefusedAt Is parts a → IsRefusedAt Is parts b → a ≡ b

-- the laws of the records of one kind
pub record LawsOf {H R : Type 0} (layouts : RecordVersion → Layout H R) : Type 0 where
  pub parts : PartsTell layouts
  pub refusals : (parts : List StoredPart) → HasOneRefusal (IsInSome (λ version. IsRecordOf (layouts version))) parts
  pub bytes : (bytes : List ℕ) → HasOneReading (λ version. IsRecordOf (layouts version)) bytes

-- a record of the second kind, and whatever begins with one, is refused at its first part as one of the first kind
abbrev pub IsRefusedBy : {H R G S : Type 0} → (RecordVersion → Layout G S) → (RecordVersion → Layout H R) → Type 0
IsRefusedBy others layouts =
    (parts more : List StoredPart) → IsInSome (λ version. IsRecordOf (layouts version)) parts → IsRefusedAt (IsInSome (λ version. IsRecordOf (others version))) (parts ++ more) 0

-- and the other way round
abbrev pub AreKindsApart : {H R G S : Type 0} → (RecordVersion → Layout H R) → (RecordVersion → Layout G S) → Type 0
AreKindsApart layouts others = IsRefusedBy others layouts × IsRefusedBy layouts others

-- the laws of the records of both plugins and of an orchestrator
pub record RecordLaws : Type 0 where
  pub controller : LawsOf controller_layout
  pub node : (wanted : Option (List ℕ)) → LawsOf (λ version. node_layout version wanted)
  pub orchestrator : LawsOf orchestrator_layout
  pub controller_and_node : (wanted : Option (List ℕ)) → AreKindsApart controller_layout (λ version. node_layout version wanted)
  pub controller_and_orchestrator : AreKindsApart controller_layout orchestrator_layout
  pub node_and_orchestrator : (wanted : Option (List ℕ)) → AreKindsApart (λ version. node_layout version wanted) orchestrator_layout
