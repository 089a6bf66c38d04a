-- Rows of any values as parts: what reading one row tells, what reading them in order tells, and what that tells of the table.
use Rattle.std.proofs.Common.{◌≡◌, ◌⊎◌, inl, inr, ℕ, zero, suc, ◌^◌, ◌<◌, Some, None, List, [], ◌∷◌, ◌++◌, map, length, get_or, take, slice_get, Result, Ok, Err, IfOk, IfErr, refl, sym, ap, ap₂, subst, ◌∙◌, arith, Less, IsPermutation}
use Rattle.std.specs.List.{AllByRecursion, AllZip}
use Rattle.std.specs.Global.{Vec}
use Rattle.std.specs.Ordering.{nat_cmp, ordering_reverse}
use Rattle.std.specs.Cmp.Lexicographic.{slice_cmp}
use Rattle.std.proofs.lemmas.Bool.{cases_order}
use Rattle.std.proofs.lemmas.Cmp.{tied_itself, nat_list_cmp_total}
use Rattle.std.proofs.lemmas.List.{map-append}
use Rattle.std.proofs.lemmas.List.Elements.{recursion_from_All, All-from_recursion}
use Rattle.std.proofs.lemmas.List.Sorted.{All-permutation, IsPermutation-trans}
use Rattle.byteorder.specs.Endian.{big_bytes}
use Rattle.sqlite_value.specs.declared.value.Value.{Value}
use Rattle.sqlite_value.specs.declared.value.Value.TheVariants.{Null, Int, Real, Text, Blob}
use Rattle.sqlite_value.specs.Order.{Row, column, value_cmp}
use Rattle.sqlite_value.proofs.OrderLemmas.{value_cmp-Blob}
use Rattle.sqlite_trees.specs.Tree.{IsAscending}
use Rattle.sqlite_keyed.proofs.ListLemmas.{all-slice_get}
use Rattle.sqlite.specs.State.{State}
use Rattle.csi_sqlite.specs.Public.Rows.{cells, AreByKey, HasColumns}
use Rattle.csi_stores.specs.declared.keep.KeepFault.{KeepFault}
use Rattle.csi_stores.specs.declared.keep.KeepFault.TheVariants.{NoMemory, BadRecord}
use Rattle.csi_stores.specs.Public.Content.{AreRisingParts}
use Rattle.csi_stores.specs.declared.part.Part.{Part}
use Rattle.csi_stores.specs.Public.Part.{StoredPart, StoredChange, part_change, put_all}
use Rattle.csi_sqlite.specs.Public.Tables.{keyed_row, AreKeys, HasParts}
use Rattle.csi_sqlite.specs.Public.Loading.{IsRowOfPart, IsNoPart, IsFirstBad, IsNotGiven, IsLoaded}
use Rattle.csi_sqlite.specs.Private.Loading.{blob_in, AreRowsOfParts}
use Rattle.csi_sqlite.proofs.KeyOrder.{key_below}
use Rattle.csi_sqlite.proofs.Tabled.{one_content, stores}

-- ---- one row

-- a value that has bytes as a BLOB is the BLOB of these
blob_is : (v : Value) (bytes : List ℕ) → Some bytes ≡ blob_in v → v ≡ Blob bytes
blob_is Null bytes e = absurd (cc)
blob_is (Int n) bytes e = absurd (cc)
blob_is (Real x) bytes e = absurd (cc)
blob_is (Text t) bytes e = absurd (cc)
blob_is (Blob b) bytes e = let same : b ≡ bytes = cc in ap Blob same

-- a row whose first column is no BLOB is no part
pub no_key : (row : Row) → None ≡ blob_in (column row 0) → IsNoPart row
no_key row none part is = absurd (let e : None ≡ Some (big_bytes 8 part.key) = none ∙ ap blob_in is.key in cc)

-- a row whose second column is no BLOB is no part
pub no_value : (row : Row) → None ≡ blob_in (column row 1) → IsNoPart row
no_value row none part is = absurd (let e : None ≡ Some part.value = none ∙ ap blob_in is.value in cc)

-- a row whose first column hasn't eight bytes is no part
pub other_length : (row : Row) (bytes : List ℕ) → Some bytes ≡ blob_in (column row 0) → (length bytes ≡ 8 → ⊥) → IsNoPart row
other_length row bytes there other part is =
    let e : Some bytes ≡ Some (big_bytes 8 part.key) = there ∙ ap blob_in is.key in
    let same : bytes ≡ big_bytes 8 part.key = cc in
    other (ap length same)

-- a row with the eight bytes of a key, and a value, is this part
pub eight_bytes : (row : Row) (bytes value : List ℕ) (key : ℕ) → Some bytes ≡ blob_in (column row 0) → Some value ≡ blob_in (column row 1) → key < 2 ^ 64 → big_bytes 8 key ≡ bytes
    → IsRowOfPart row (record { key = key; value = value })
eight_bytes row bytes value key first rest fits same = record {
  fits = fits;
  key = blob_is (column row 0) bytes first ∙ ap Blob (sym same);
  value = blob_is (column row 1) value rest;
}

-- ---- row after row

-- where the rows so far are parts and the next row is one, the rows with it are these parts and that one
zip_push : (rows : List Row) (i : ℕ) (row : Row) (parts : List StoredPart) (part : StoredPart) → i < length rows → row ≡ get_or rows i row
    → AllZip IsRowOfPart (take i rows) parts → IsRowOfPart row part → AllZip IsRowOfPart (take (suc i) rows) (parts ++ part ∷ [])
zip_push [] i row parts part within here zip is = absurd (omega arith)
zip_push (r ∷ rows) zero row [] part within here zip is = (subst (λ x. IsRowOfPart x part) here is, tt)
zip_push (r ∷ rows) zero row (p ∷ parts) part within here zip is = absurd zip
zip_push (r ∷ rows) (suc i) row [] part within here zip is = absurd zip
zip_push (r ∷ rows) (suc i) row (p ∷ parts) part within here zip is = (zip.0, zip_push rows i row parts part (omega arith) here zip.1 is)

-- where the rows so far were read as parts and the next is, the rows with it were
pub parts_push : (rows : List Row) (i : ℕ) (row : Row) (before after : List StoredChange) → i < length rows → row ≡ get_or rows i row → AreRowsOfParts (take i rows) before
    → (part : StoredPart) × IsRowOfPart row part × (after ≡ before ++ put_all (part ∷ [])) → AreRowsOfParts (take (suc i) rows) after
parts_push rows i row before after within here are is = (
  are.0 ++ is.0 ∷ [],
  zip_push rows i row are.0 is.0 within here are.1 is.1,
  is.2 ∙ ap (λ (l : List StoredChange). l ++ put_all (is.0 ∷ [])) are.2 ∙ sym (map-append (λ part. record { key = part.key; value = Some part.value }) are.0 (is.0 ∷ [])),
)

-- a row that stands at a place inside the rows is found there
row_at : (rows : List Row) (i : ℕ) (row : Row) → i < length rows → row ≡ get_or rows i row → slice_get rows i ≡ Some row
row_at [] i row within here = absurd (omega arith)
row_at (r ∷ rows) zero row within here = ap Some (sym here)
row_at (r ∷ rows) (suc i) row within here = row_at rows i row (omega arith) here

-- where the rows before are parts, a row that is none is the first bad one
pub first_bad : (rows : List Row) (i : ℕ) (row : Row) (before : List StoredChange) → i < length rows → row ≡ get_or rows i row → AreRowsOfParts (take i rows) before → IsNoPart row → IsFirstBad rows i
first_bad rows i row before within here are bad = record { row = row; there = row_at rows i row within here; bad = bad; earlier = (are.0, are.1) }

-- ---- all rows, by rising key

-- a key with the lower list of eight bytes is lower
below_back : (a b : ℕ) → a < 2 ^ 64 → b < 2 ^ 64 → slice_cmp nat_cmp (big_bytes 8 a) (big_bytes 8 b) ≡ Less → a < b
below_back a b low high less = elim (cases_order a b) [
  | inl same ↦ absurd (let tie = tied_itself nat_list_cmp_total (big_bytes 8 a) in let is = rw (← same) at less in cc)
  | inr rest ↦ elim rest [
    | inl under ↦ under
    | inr over ↦ absurd (let more = nat_list_cmp_total.antisymm (big_bytes 8 a) (big_bytes 8 b) ∙ ap ordering_reverse (key_below b a over low) in cc)
  ]
]

-- rows of two columns that are these parts are the parts' rows
as_cells : (rows : List Row) (parts : List StoredPart) → AllByRecursion (λ row. row ≡ column row 0 ∷ column row 1 ∷ []) rows → AllZip IsRowOfPart rows parts → rows ≡ map cells (map keyed_row parts)
as_cells [] [] wide zip = refl
as_cells [] (p ∷ parts) wide zip = absurd zip
as_cells (r ∷ rows) [] wide zip = absurd zip
as_cells (r ∷ rows) (p ∷ parts) wide zip = ap₂ ◌∷◌ (wide.0 ∙ ap₂ (λ (v w : Value). v ∷ w ∷ []) zip.0.key zip.0.value) (as_cells rows parts wide.1 zip.1)

-- the keys of rows that are parts have 64 bits
are_keys : (rows : List Row) (parts : List StoredPart) → AllZip IsRowOfPart rows parts → AreKeys parts
are_keys [] [] zip = tt
are_keys [] (p ∷ parts) zip = absurd zip
are_keys (r ∷ rows) [] zip = absurd zip
are_keys (r ∷ rows) (p ∷ parts) zip = (zip.0.fits, are_keys rows parts zip.1)

-- of two rows that are parts, the one with the lower first column has the lower key
key_less : (r s : Row) (p q : StoredPart) → IsRowOfPart r p → IsRowOfPart s q → value_cmp (column r 0) (column s 0) ≡ Less → p.key < q.key
key_less r s p q is also less =
    below_back p.key q.key is.fits also.fits (sym (value_cmp-Blob (big_bytes 8 p.key) (big_bytes 8 q.key)) ∙ sym (ap₂ value_cmp is.key also.key) ∙ less)

-- rows that rise by their first column are parts by rising key
are_rising : (rows : List Row) (parts : List StoredPart) → IsAscending (λ a b. value_cmp (column a 0) (column b 0) ≡ Less) rows → AllZip IsRowOfPart rows parts → AreRisingParts parts
are_rising [] [] up zip = tt
are_rising [] (p ∷ parts) up zip = absurd zip
are_rising (r ∷ rows) [] up zip = absurd zip
are_rising (r ∷ rows) (p ∷ parts) up zip = (go rows parts up.0 zip.1, are_rising rows parts up.1 zip.1)
  where
    go : (later : List Row) (others : List StoredPart) → AllByRecursion (λ b. value_cmp (column r 0) (column b 0) ≡ Less) later → AllZip IsRowOfPart later others
        → AllByRecursion (λ (q : StoredPart). p.key < q.key) others
    go [] [] above rest = tt
    go [] (q ∷ others) above rest = absurd rest
    go (s ∷ later) [] above rest = absurd rest
    go (s ∷ later) (q ∷ others) above rest = (key_less r s p q zip.0 rest.0 above.0, go later others above.1 rest.1)

-- where a table's rows by their first column are these parts, the table has them
has_parts : (s : State) (columns rows : List Row) (parts : List StoredPart) → HasColumns s columns → AreByKey columns rows → AllZip IsRowOfPart rows parts → HasParts s parts
has_parts s columns rows parts has by_key zip = record {
  rows = record {
    is_open = has.is_open;
    declared = has.declared;
    stores = record {
      listed = has.stores.listed;
      stored = record {
        ordered = has.stores.stored.ordered;
        numbered = has.stores.stored.numbered;
        same = subst (IsPermutation _) (as_cells rows parts by_key.wide zip) (IsPermutation-trans _ _ _ has.stores.stored.same by_key.same);
      };
    };
  };
  rising = are_rising rows parts by_key.rising zip;
  keys = are_keys rows parts zip;
}

-- what reading the rows in their order gives
abbrev pub IsRead : List Row → Result (Vec Part) KeepFault → Type 0
IsRead rows r = IfOk r (λ parts. AreRowsOfParts rows (map part_change parts.items)) × IfErr r (λ fault. (fault ≡ NoMemory) ⊎ ((place : ℕ) × (fault ≡ BadRecord place) × IsFirstBad rows place))

-- what reading the rows in their order gives is what loading the table answers
pub loaded : (s : State) (columns rows : List Row) (r : Result (Vec Part) KeepFault) → HasColumns s columns → AreByKey columns rows → IsRead rows r → IsLoaded s columns r
loaded s columns rows (Ok parts) has by_key read = (read.0.0, has_parts s columns rows read.0.0 has by_key read.0.1, read.0.2)
loaded s columns rows (Err fault) has by_key read = elim read.1 [
  | inl memory ↦ subst (IsNotGiven columns) (sym memory) tt
  | inr bad ↦ subst (IsNotGiven columns) (sym bad.1) (rows, by_key, bad.2)
]

-- ---- a table of parts alone

-- loading a table of these parts gives them and no others
pub loaded_content : (s : State) (columns : List Row) (content : List StoredPart) (r : Result (Vec Part) KeepFault) → HasParts s content → IsLoaded s columns r
    → IfOk r (λ parts. map part_change parts.items ≡ put_all content)
loaded_content s columns content (Ok parts) has is = is.2 ∙ ap put_all (one_content s.now.trees content is.0 (stores s content has) (stores s is.0 is.1))
loaded_content s columns content (Err fault) has is = tt

-- each row of a store's parts is a part
are_parts : (content : List StoredPart) → AreKeys content → AllByRecursion (λ row. (part : StoredPart) × IsRowOfPart row part) (map cells (map keyed_row content))
are_parts [] keys = tt
are_parts (part ∷ content) keys = ((part, record { fits = keys.0; key = refl; value = refl }), are_parts content keys.1)

-- no row of it is refused
pub none_refused : (content : List StoredPart) (place : ℕ) → AreKeys content → ¬ IsNotGiven (map cells (map keyed_row content)) (BadRecord place)
none_refused content place keys is =
    let P = λ (row : Row). (part : StoredPart) × IsRowOfPart row part in
    let columns = map cells (map keyed_row content) in
    let all = recursion_from_All P is.0 (All-permutation P columns is.0 is.1.same (All-from_recursion P columns (are_parts content keys))) in
    let part = all-slice_get P is.0 place is.2.row is.2.there all in
    is.2.bad part.0 part.1
