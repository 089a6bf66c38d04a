-- Rows of the table `parts` read as parts, whatever values they have. This profile's own.
use Rattle.std.specs.Prelude.{◌≡◌, ◌++◌, ℕ, Bool, true, false, List, [], ◌∷◌, Option, Some, None}
use Rattle.std.specs.List.{AllZip}
use Rattle.sqlite.specs.declared.types.Value.{Value}
use Rattle.sqlite.specs.declared.types.Value.TheVariants.{Null, Int, Real, Text, Blob}
use Rattle.sqlite.specs.Order.{Row}
use Rattle.csi_stores.specs.Public.Part.{StoredPart, StoredChange, put_all}
use Rattle.csi_sqlite.specs.Public.Loading.{IsRowOfPart, IsNoPart}

-- ---- row after row

-- a BLOB's bytes
abbrev pub blob_in : Value → Option (List ℕ)
blob_in Null = None
blob_in (Int n) = None
blob_in (Real x) = None
blob_in (Text t) = None
blob_in (Blob b) = Some b

-- what reading a row gives: the part that it is, or nothing where it is none
abbrev pub IsReadAs : Row → Option StoredChange → Type 0
IsReadAs row None = IsNoPart row
IsReadAs row (Some change) = (part : StoredPart) × IsRowOfPart row part × (change ≡ record { key = part.key; value = Some part.value })

-- the part that a row is comes behind those before it, or the row is none
abbrev pub TakesRow : Row → List StoredChange → List StoredChange → Bool → Type 0
TakesRow row before after true = (part : StoredPart) × IsRowOfPart row part × (after ≡ before ++ put_all (part ∷ []))
TakesRow row before after false = IsNoPart row

-- the same of all rows
abbrev pub AreRowsOfParts : List Row → List StoredChange → Type 0
AreRowsOfParts rows changes = (parts : List StoredPart) × AllZip IsRowOfPart rows parts × (changes ≡ put_all parts)
