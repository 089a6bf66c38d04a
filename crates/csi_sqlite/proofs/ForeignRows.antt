-- Where a row of the table is no part, loading answers that, with the place of the first one.
use Rattle.std.proofs.Common.{◌≡◌, inl, inr, ℕ, zero, suc, ◌<◌, Some, List, [], ◌∷◌, map, take, slice_get, Result, Ok, Err, subst, arith}
use Rattle.std.specs.List.{AllZip}
use Rattle.std.specs.Global.{Vec}
use Rattle.std.proofs.lemmas.Bool.{cases_order}
use Rattle.std.proofs.lemmas.List.Sorted.{IsPermutation-sym, IsPermutation-trans}
use Rattle.sqlite_value.specs.Order.{Row}
use Rattle.sqlite_keyed.proofs.SortLemmas.{sorted_unique}
use Rattle.sqlite.specs.State.{State}
use Rattle.sqlite.specs.Tree.{Trees}
use Rattle.csi_sqlite.specs.Public.Rows.{cells, AreByKey}
use Rattle.csi_stores.specs.declared.part.Part.{Part}
use Rattle.csi_stores.specs.Public.Part.{StoredPart}
use Rattle.csi_stores.specs.declared.keep.KeepFault.{KeepFault}
use Rattle.csi_stores.specs.declared.keep.KeepFault.TheVariants.{Device, NoMemory, BadRecord, Full}
use Rattle.csi_stores.specs.Public.Keeping.{RefusesAt}
use Rattle.csi_sqlite.specs.Public.Tables.{keyed_row, StoresParts}
use Rattle.csi_sqlite.specs.Public.Loading.{IsRowOfPart, IsFirstBad, IsLoaded, IsForeign, StoresForeign}
use Rattle.csi_sqlite.proofs.Tabled.{by_key, by_key_total, sorted_from, stores}
use Rattle.csi_sqlite.proofs.Loading.{none_refused}

-- the rows of some columns stand in one order by their first one
one_order : (columns rows others : List Row) → AreByKey columns rows → AreByKey columns others → others ≡ rows
one_order columns rows others are also =
    sorted_unique by_key by_key_total rows others are.rising (IsPermutation-trans _ _ _ (IsPermutation-sym _ _ are.same) also.same) (sorted_from by_key by_key_total others also.rising)

-- before the place up to which rows are parts, each is one
part_before : (rows : List Row) (place at : ℕ) (parts : List StoredPart) (row : Row) → AllZip IsRowOfPart (take place rows) parts → at < place → slice_get rows at ≡ Some row → (part : StoredPart) × IsRowOfPart row part
part_before [] place at parts row zip less here = absurd (cc)
part_before (r ∷ rows) zero at parts row zip less here = absurd (omega arith)
part_before (r ∷ rows) (suc place) at [] row zip less here = absurd zip
part_before (r ∷ rows) (suc place) zero (p ∷ parts) row zip less here = let same : r ≡ row = cc in (p, subst (λ x. IsRowOfPart x p) same zip.0)
part_before (r ∷ rows) (suc place) (suc at) (p ∷ parts) row zip less here = part_before rows place at parts row zip.1 (omega arith) here

-- one row is the first that is no part
one_first : (rows : List Row) (place at : ℕ) → IsFirstBad rows place → IsFirstBad rows at → at ≡ place
one_first rows place at bad also = elim (cases_order at place) [
  | inl same ↦ same
  | inr rest ↦ elim rest [
    | inl under ↦ absurd (let part = part_before rows place at bad.earlier.0 also.row bad.earlier.1 under also.there in also.bad part.0 part.1)
    | inr over ↦ absurd (let part = part_before rows at place also.earlier.0 bad.row also.earlier.1 over bad.there in bad.bad part.0 part.1)
  ]
]

-- a database with parts alone has no such row
pub none_foreign : (db : Trees) (content : List StoredPart) (place : ℕ) → StoresParts db content → ¬ StoresForeign db place
none_foreign db content place has foreign =
    let moved = IsPermutation-trans _ _ _ (IsPermutation-sym _ _ has.rows.stored.same) foreign.1.stored.same in
    let rows = foreign.2.1 in
    none_refused content place has.keys
    (foreign.2.0, record { same = IsPermutation-trans (map cells (map keyed_row content)) _ _ moved rows.same; wide = rows.wide; rising = rows.rising }, foreign.2.2)

-- one row of a database is the first that is no part
pub one_foreign : (db : Trees) (place at : ℕ) → StoresForeign db place → StoresForeign db at → at ≡ place
one_foreign db place at is also =
    let moved = IsPermutation-trans _ _ _ (IsPermutation-sym _ _ is.1.stored.same) also.1.stored.same in
    let rows = also.2.1 in
    let by : AreByKey is.0 also.2.0 = record { same = IsPermutation-trans is.0 _ _ moved rows.same; wide = rows.wide; rising = rows.rising } in
    one_first is.2.0 place at is.2.2 (subst (λ l. IsFirstBad l at) (one_order is.0 is.2.0 also.2.0 is.2.1 by) also.2.2)

-- what a connection sees is what the database has
pub foreign_seen : (s : State) (place : ℕ) → IsForeign s place → StoresForeign s.now.trees place
foreign_seen s place foreign = (foreign.columns, foreign.has.stores, foreign.first)

-- what loading answers, whatever columns are looked at, is said of these
pub refuses_at : (s : State) (place : ℕ) (r : Result (Vec Part) KeepFault) → (foreign : IsForeign s place) → IsLoaded s foreign.columns r → RefusesAt place r
refuses_at s place (Ok parts) foreign is = none_foreign s.now.trees is.0 place (stores s is.0 is.1) (foreign_seen s place foreign)
refuses_at s place (Err Device) foreign is = tt
refuses_at s place (Err NoMemory) foreign is = tt
refuses_at s place (Err (BadRecord at)) foreign is =
    one_first foreign.first.0 place at foreign.first.2 (subst (λ rows. IsFirstBad rows at) (one_order foreign.columns foreign.first.0 is.0 foreign.first.1 is.1) is.2)
refuses_at s place (Err Full) foreign is = absurd is
