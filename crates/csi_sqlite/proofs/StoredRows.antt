-- Rows as SQLite has them: what is left where rowids are taken out, and where a row is put in.
use Rattle.std.proofs.Common.{◌≡◌, ℕ, ℤ, Bool, true, false, not, List, [], ◌∷◌, map, drop, filter, refl, sym, ap, subst, ◌∙◌, inl, inr, IsTrue, true≢false, Ordering, Less, Equal, Greater, IsPermutation, bytes_eq}
use Rattle.std.specs.List.{AllByRecursion, list_any}
use Rattle.std.specs.Ordering.{is_eq, match_ordering}
use Rattle.std.proofs.lemmas.Bool.{cases_Bool, or_parts, false_from_ne_true}
use Rattle.std.proofs.lemmas.Cmp.{tied_itself}
use Rattle.std.proofs.lemmas.Slice.Eq.{bytes_eq-Decides}
use Rattle.std.proofs.lemmas.Bool.Decides.{same_from_decides}
use Rattle.std.proofs.lemmas.List.Sorted.{IsPermutation-refl, IsPermutation-cons, IsPermutation-middle, IsPermutation-trans, IsPermutation-map}
use Rattle.sqlite_value.specs.declared.value.Value.TheVariants.{Int, Blob}
use Rattle.sqlite_value.specs.Order.{Row, column, value_cmp}
use Rattle.sqlite_value.proofs.OrderLemmas.{value_cmp_total}
use Rattle.sqlite_trees.specs.Tree.{rowid, has_rowid, put_row, without_rowid, IsTable}
use Rattle.sqlite_trees.specs.View.{is_int}
use Rattle.sqlite_trees.proofs.TreeLemmas.{IsTable-put_row, all-put_row}
use Rattle.sqlite_sql.specs.Ops.{binary, is_true}
use Rattle.sqlite_sql.specs.declared.ops.BinaryOp.TheVariants.{Compare}
use Rattle.sqlite_sql.specs.declared.ops.CompareOp.TheVariants.{Eq}
use Rattle.sqlite_value.specs.declared.keys.Collation.TheVariants.{Binary}
use Rattle.sqlite_typed.specs.Tests.{bytes_cmp}
use Rattle.sqlite_typed.proofs.TestLemmas.{at_blobs, same_bytes, bytes_eq_refl}
use Rattle.sqlite_rules.specs.Lists.{Has}
use Rattle.sqlite_rules.specs.Edit.{id_in, without_all, is_taken}
use Rattle.sqlite_rules.proofs.ListLemmas.{all_has, some_has, some_from}
use Rattle.sqlite_rules.proofs.PlaceLemmas.{Tied, tied_same}
use Rattle.sqlite_rules.proofs.TableLemmas.{int_is}
use Rattle.sqlite_keyed.proofs.ListLemmas.{all_of, filter_all, filter_same, filter-map, all-filter, ascending-filter, IsPermutation-filter}
use Rattle.csi_sqlite.specs.Public.Rows.{KeyedRow, cells, AreRows, without}
use Rattle.csi_sqlite.proofs.ListFacts.{filter_on, filter_again, not_or}

-- each row's rowid is an integer
abbrev pub AreInts : List Row → Type 0
AreInts = AllByRecursion (λ r. IsTrue (is_int (rowid r)))

-- a row's rowid as an integer
abbrev pub id_of : Row → ℤ
id_of r = id_in (rowid r)

-- ---- rows without some rowids

-- rows without some rowids are those that have none of them
left_is : (ids : List ℤ) (rows : List Row) → without_all rows ids ≡ filter (λ r. not (list_any (λ id. has_rowid id r) ids)) rows
left_is [] rows = sym (filter_all (λ r. true) rows (all_of (λ r. true ≡ true) (λ r. refl) rows))
left_is (id ∷ ids) rows =
    left_is ids (without_rowid id rows) ∙ filter_again (λ r. not (list_any (λ i. has_rowid i r) ids)) (λ r. not (has_rowid id r)) rows
    ∙ filter_same _ _ (λ r. not_or (has_rowid id r) (list_any (λ i. has_rowid i r) ids)) rows

-- an order that the test finds equal is Equal
equal_is : (o : Ordering) → is_eq o ≡ true → o ≡ Equal
equal_is Less h = absurd (cc)
equal_is Equal h = refl
equal_is Greater h = absurd (cc)

-- the rowids are those of the rows that pass
pub record AreIdsOf (rows : List Row) (passes : Row → Bool) (ids : List ℤ) : Type 0 where
  pub complete : (r : Row) → Has rows r → passes r ≡ true → Has ids (id_of r)
  pub sound : (id : ℤ) → Has ids id → (r : Row) × Has rows r × (passes r ≡ true) × (id ≡ id_of r)

module _ (rows : List Row) (table : IsTable rows) (ints : AreInts rows) where
  -- a row's rowid is its id
  pub keyed : (r : Row) → Has rows r → rowid r ≡ Int (id_of r)
  keyed r h = int_is (rowid r) (all_has _ rows r ints h)

  -- rows of one rowid are one
  pub one_row : (r x : Row) → Has rows r → Has rows x → has_rowid (id_of x) r ≡ true → r ≡ x
  one_row r x h k is =
      let tie : Tied r x = subst (λ v. value_cmp (rowid r) v ≡ Equal) (sym (keyed x k)) (equal_is _ is) in
      tied_same rows r x table h k tie

  -- a row has the rowid of its id
  own : (r : Row) → Has rows r → has_rowid (id_of r) r ≡ true
  own r h = subst (λ v. is_eq (value_cmp v (Int (id_of r))) ≡ true) (sym (keyed r h)) (ap is_eq (tied_itself value_cmp_total (Int (id_of r))))

  -- without the rows of these ids, those that don't pass are left
  pub taken_out : (passes : Row → Bool) (ids : List ℤ) → AreIdsOf rows passes ids → without_all rows ids ≡ filter (λ r. not (passes r)) rows
  taken_out passes ids are = left_is ids rows ∙ filter_on _ _ rows (λ r h. ap not (decides r h))
    where
      decides : (r : Row) → Has rows r → list_any (λ id. has_rowid id r) ids ≡ passes r
      decides r h = elim (cases_Bool (passes r)) [
        | inl passing ↦ some_from (λ id. has_rowid id r) ids (id_of r) (are.complete r h passing) (own r h) ∙ sym passing
        | inr failing ↦ false_from_ne_true _ (λ any.
            let it = some_has (λ id. has_rowid id r) ids any in
            let from = are.sound it.0 it.1 in
            let same : r ≡ from.0 = one_row r from.0 h from.1 (subst (λ id. has_rowid id r ≡ true) from.3 it.2) in
            true≢false (sym (ap passes same ∙ from.2) ∙ failing)) ∙ sym failing
      ]

-- ---- a row more

-- a row that is put in under a free rowid goes before the others, but for the order
pub put_moves : (new : Row) (rows : List Row) → is_taken rows new ≡ false → IsPermutation (put_row new rows) (new ∷ rows)
put_moves new [] free = IsPermutation-refl _
put_moves new (r ∷ rows) free = go (value_cmp (rowid r) (rowid new)) (or_parts _ _ free).0 (put_moves new rows (or_parts _ _ free).1)
  where
    go : (o : Ordering) → is_eq o ≡ false → IsPermutation (put_row new rows) (new ∷ rows)
        → IsPermutation (match_ordering o (r ∷ put_row new rows) (new ∷ rows) (new ∷ r ∷ rows)) (new ∷ r ∷ rows)
    go Less other more = IsPermutation-trans _ _ _ (IsPermutation-cons r _ _ more) (IsPermutation-middle (r ∷ []) new rows)
    go Equal other more = absurd (true≢false other)
    go Greater other more = IsPermutation-refl _

-- ---- rows by their keys

-- what SQL's `key = ?1` says of a row's columns
abbrev pub has_key : List ℕ → Row → Bool
has_key key columns = is_true (binary (Compare Eq Binary) (column columns 0) (Blob key))

-- comparing bytes finds them equal where the test of equality does
same_test : (a b : List ℕ) → is_eq (bytes_cmp a b) ≡ bytes_eq a b
same_test a b = same_from_decides (is_eq (bytes_cmp a b)) (bytes_eq a b) (same_bytes a b, λ e. subst (λ c. is_eq (bytes_cmp a c) ≡ true) e (bytes_eq_refl a)) (bytes_eq-Decides a b)

-- a row of two BLOBs has the key where its first BLOB is the key
pub has_key-cells : (key : List ℕ) (row : KeyedRow) → has_key key (cells row) ≡ bytes_eq row.key key
has_key-cells key row = at_blobs false Eq row.key key ∙ same_test row.key key

-- the columns are those after the rowid
pub has_key-row : (key : List ℕ) (r : Row) → is_true (binary (Compare Eq Binary) (column r 1) (Blob key)) ≡ has_key key (drop 1 r)
has_key-row key [] = refl
has_key-row key (x ∷ r) = refl

-- without the rows of a key
pub are_kept : (key : List ℕ) (stored : List Row) (rows : List KeyedRow) → AreRows stored (map cells rows) → AreRows (filter (λ r. not (has_key key (drop 1 r))) stored) (map cells (without key rows))
are_kept key stored rows are = record {
  ordered = ascending-filter _ _ stored are.ordered;
  numbered = all-filter _ _ stored are.numbered;
  same =
      let front = filter-map (λ c. not (has_key key c)) (drop 1) stored in
      let back = filter-map (λ c. not (has_key key c)) cells rows ∙ ap (map cells) (filter_same _ _ (λ row. ap not (has_key-cells key row)) rows) in
      subst (λ l. IsPermutation l (map cells (without key rows))) front
      (subst (IsPermutation (filter (λ c. not (has_key key c)) (map (drop 1) stored))) back (IsPermutation-filter _ _ _ are.same));
}

-- with a row more, under a rowid that is free
pub are_more : (new : Row) (stored : List Row) (row : KeyedRow) (rows : List KeyedRow) → IsTrue (is_int (rowid new)) → drop 1 new ≡ cells row → is_taken stored new ≡ false
    → AreRows stored (map cells rows) → AreRows (put_row new stored) (map cells (row ∷ rows))
are_more new stored row rows int is free are = record {
  ordered = IsTable-put_row new stored are.ordered;
  numbered = all-put_row _ new stored int are.numbered;
  same =
      IsPermutation-trans _ _ _ (IsPermutation-map (drop 1) _ _ (put_moves new stored free))
      (subst (λ c. IsPermutation (c ∷ map (drop 1) stored) (cells row ∷ map cells rows)) (sym is) (IsPermutation-cons (cells row) _ _ are.same));
}
