-- How far the rows of a record were read, one part after another: what the private functions that read answer.
use Rattle.std.specs.Prelude.{◌≡◌, ◌≢◌, ◌⊎◌, ◌<◌, ◌≤◌, ◌^◌, ℕ, suc, Bool, true, false, List, [], ◌∷◌, ◌++◌, length, map}
use Rattle.std.specs.List.{flat_map, AllByRecursion}
use Rattle.csi_records.specs.declared.version.RecordVersion.{RecordVersion}
use Rattle.csi_stores.specs.Public.Part.{StoredPart, IsPart}
use Rattle.csi_records.specs.Public.Spelling.{part_bytes, record_head}
use Rattle.csi_orchestrator.specs.Model.Shown.{RowShown}
use Rattle.csi_records.specs.Public.OrchestratorSpelling.{KeyedRow, orchestrator_part}
use Rattle.csi_records.specs.Public.OrchestratorRecords.{keyed_from, IsKeyedRow}

-- all parts are rows; or the first that is none stands behind those that are
abbrev pub StopsAtRow : {R : Type 0} → (R → StoredPart) → (R → Type 0) → List StoredPart → List R → Bool → Type 0
StopsAtRow row_part IsRow parts rows true = parts ≡ map row_part rows
StopsAtRow {R} row_part IsRow parts rows false =
    (part : StoredPart) × (rest : List StoredPart) × (parts ≡ map row_part rows ++ part ∷ rest) × ((row : R) → IsRow row → row_part row ≡ part → ⊥)

-- rows within their limits, of parts that these functions tell
pub record AreRead {R : Type 0} (row_part : R → StoredPart) (IsRow : R → Type 0) (parts : List StoredPart) (rows : List R) (all : Bool) : Type 0 where
  pub fit : AllByRecursion IsRow rows
  pub stops : StopsAtRow row_part IsRow parts rows all

-- a row of an orchestrator within its limits, under this key
pub record IsRowUnder (version : RecordVersion) (key : ℕ) (keyed : KeyedRow) : Type 0 where
  pub under : keyed.key ≡ key
  pub is : IsKeyedRow version keyed

-- such rows under the keys 1, 2, 3 and so on, of parts that these functions tell: the first part that is none stands behind them, and is
-- no row under the next key
pub record AreReadInOrder (version : RecordVersion) (parts : List StoredPart) (rows : List RowShown) (all : Bool) : Type 0 where
  pub fit : AllByRecursion (IsKeyedRow version) (keyed_from 1 rows)
  pub stops : StopsAtRow (orchestrator_part version) (IsRowUnder version (suc (length rows))) parts (keyed_from 1 rows) all

-- all bytes are taken by as many parts; or bytes are left behind them; or what comes next is no part
abbrev pub SplitStops : ℕ → List StoredPart → List ℕ → Bool → Type 0
SplitStops count parts rest true = (length parts ≡ count) × (rest ≡ [])
SplitStops count parts rest false =
    ((length parts ≡ count) × (rest ≢ [])) ⊎ ((length parts < count) × ((part : StoredPart) (more : List ℕ) → IsPart part → rest ≡ part_bytes part ++ more → ⊥))

-- how far bytes were read as parts, behind this version
pub record AreSplit (version : RecordVersion) (bytes : List ℕ) (parts : List StoredPart) (all : Bool) : Type 0 where
  pub count : ℕ
  pub rest : List ℕ
  pub from : 1 ≤ count
  pub to : count < 2 ^ 32
  pub fit : AllByRecursion IsPart parts
  pub are : bytes ≡ record_head version count ++ (flat_map part_bytes parts ++ rest)
  pub stops : SplitStops count parts rest all

-- no version and number of parts, from 1 on, stand in front of the bytes
abbrev pub HasNoHead : List ℕ → Type 0
HasNoHead bytes = (version : RecordVersion) (count : ℕ) (rest : List ℕ) → 1 ≤ count → count < 2 ^ 32 → bytes ≡ record_head version count ++ rest → ⊥
