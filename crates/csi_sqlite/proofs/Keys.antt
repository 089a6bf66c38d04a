-- Rows of the table as it is declared: each has two columns, neither of them NULL, and no two rows have one key.
use Rattle.std.proofs.Common.{◌≡◌, ℤ, true, false, ◌&&◌, List, [], ◌∷◌, drop, None, Some, refl, sym, ap, ap₂, ◌∙◌, inl, inr, true≢false, Ordering, Less, Equal, Greater}
use Rattle.std.specs.Ordering.{is_eq, is_ne}
use Rattle.std.proofs.lemmas.Bool.{cases_Bool, and_parts, and_from, not-true, false_from_ne_true}
use Rattle.sqlite_value.specs.declared.value.Value.{Value}
use Rattle.sqlite_value.specs.declared.value.Value.TheVariants.{Int}
use Rattle.sqlite_value.specs.declared.keys.Collation.TheVariants.{Binary}
use Rattle.sqlite_value.specs.Order.{Row, column, value_cmp}
use Rattle.sqlite_value.specs.Keys.{plain, first_key}
use Rattle.sqlite_trees.specs.Tree.{Trees, rowid, IsTable, IsAscending}
use Rattle.sqlite_sql.specs.Ops.{binary, is_true, is_null, from_truth}
use Rattle.sqlite_schema.specs.declared.schema.Constraint.TheVariants.{Datatype, NotNull, Unique}
use Rattle.sqlite_schema.specs.Rules.{are_typed, are_present, equal, differ, agree}
use Rattle.sqlite_rules.specs.Lists.{Has}
use Rattle.sqlite_rules.proofs.ListLemmas.{all_has, all_from, some_from}
use Rattle.sqlite_rules.proofs.RuleLemmas.{keeps_at}
use Rattle.sqlite_rules.proofs.PlaceLemmas.{tied_same}
use Rattle.sqlite_catalog.specs.Listing.{IsSound}
use Rattle.csi_sqlite.specs.Public.Declared.{parts_table, parts_schema}
use Rattle.csi_sqlite.proofs.StoredRows.{AreInts, id_of, keyed}

-- a list of two values
abbrev pub IsPair : Row → Type 0
IsPair columns = columns ≡ column columns 0 ∷ column columns 1 ∷ []

-- the first column stands behind the rowid
pub first_column : (r : Row) → column (drop 1 r) 0 ≡ column r 1
first_column [] = refl
first_column (x ∷ r) = refl

-- SQL's = of values that aren't NULL, and its <> of rowids that rise
equal_is : (a b : Value) → is_null a ≡ false → is_null b ≡ false → equal Binary a b ≡ is_eq (value_cmp a b)
unfolding binary
equal_is a b p q = rw (p, q) (elim (is_eq (value_cmp a b)) as (λ t. is_true (from_truth (Some t)) ≡ t) [ true ↦ refl | false ↦ refl ])

-- integers that don't compare equal differ by SQL's <>
differ_from : (m n : ℤ) → is_ne (value_cmp (Int m) (Int n)) ≡ true → differ (Int m) (Int n) ≡ true
unfolding binary
differ_from m n other = rw other refl

-- a row whose columns have their types, and aren't NULL, has two columns
pair_from : (r : Row) → are_typed None 0 parts_table.columns (drop 1 r) ≡ true → are_present None 0 parts_table.columns r ≡ true → IsPair (drop 1 r)
unfolding parts_table
pair_from [] typed present = absurd (true≢false (sym present))
pair_from (x ∷ []) typed present = absurd (true≢false (sym present))
pair_from (x ∷ v ∷ []) typed present = absurd (true≢false (sym (and_parts _ _ present).1))
pair_from (x ∷ v ∷ w ∷ []) typed present = refl
pair_from (x ∷ v ∷ w ∷ y ∷ more) typed present = absurd (true≢false (sym typed))

module _ (db : Trees) (sound : IsSound parts_schema db) where
  -- a row of the table has all its columns
  present : (r : Row) → Has (db 0) r → are_present None 0 parts_table.columns r ≡ true
  unfolding parts_schema parts_table
  present r h = keeps_at NotNull parts_schema db parts_table r (sound.obeys.rules NotNull) (inl refl) h

  -- behind its rowid it has a key and a value
  pub pairs : (r : Row) → Has (db 0) r → IsPair (drop 1 r)
  unfolding parts_schema parts_table
  pairs r h = pair_from r (and_parts _ _ (keeps_at Datatype parts_schema db parts_table r (sound.obeys.rules Datatype) (inl refl) h)).0 (present r h)

  -- its key isn't NULL
  has_a_key : (r : Row) → Has (db 0) r → is_null (column r 1) ≡ false
  unfolding parts_table
  has_a_key r h = not-true _ (and_parts _ _ (present r h)).0

  -- two rows of different rowids have different keys
  apart : (a b : Row) → Has (db 0) a → Has (db 0) b → differ (rowid a) (rowid b) ≡ true → is_eq (value_cmp (column a 1) (column b 1)) ≡ false
  unfolding parts_schema parts_table first_key
  apart a b h k other =
      let pass = keeps_at Unique parts_schema db parts_table b (sound.obeys.rules Unique) (inl refl) k in
      let none = not-true _ (and_parts _ _ pass).0 in
      let same = equal_is (column a 1) (column b 1) (has_a_key a h) (has_a_key b k) in
      false_from_ne_true _ (λ tie. true≢false (sym (some_from (λ x. agree plain (1 ∷ []) x (1 ∷ []) b && differ (rowid x) (rowid b)) (db 0) a h (and_from _ _ (and_from _ _ (same ∙ tie) refl) other)) ∙ none))

  -- so have any of them
  apart_among : AreInts (db 0) → IsTable (db 0) → (rows : List Row) → ((r : Row) → Has rows r → Has (db 0) r) → IsTable rows → IsAscending (λ a b. is_eq (value_cmp (column a 1) (column b 1)) ≡ false) rows
  apart_among ints table [] within up = tt
  apart_among ints table (a ∷ rows) within up = (
    all_from _ rows (λ b h.
        let first = keyed (db 0) table ints a (within a (inl refl)) in
        let second = keyed (db 0) table ints b (within b (inr h)) in
        let less : value_cmp (Int (id_of a)) (Int (id_of b)) ≡ Less = sym (ap₂ value_cmp first second) ∙ all_has _ rows b up.0 h in
        apart a b (within a (inl refl)) (within b (inr h)) (ap₂ differ first second ∙ differ_from (id_of a) (id_of b) (ap is_ne less))),
    apart_among ints table rows (λ r h. within r (inr h)) up.1,
  )

  -- no two rows have the same key
  pub keys_apart : AreInts (db 0) → IsTable (db 0) → IsAscending (λ a b. is_eq (value_cmp (column a 1) (column b 1)) ≡ false) (db 0)
  keys_apart ints table = apart_among ints table (db 0) (λ r h. h) table

  -- rows of one key are one
  pub one_key : AreInts (db 0) → IsTable (db 0) → (a b : Row) → Has (db 0) a → Has (db 0) b → is_eq (value_cmp (column a 1) (column b 1)) ≡ true → a ≡ b
  one_key ints table a b h k tie = elim (cases_Bool (is_ne (value_cmp (rowid a) (rowid b)))) [
    | inl other ↦
        let first = keyed (db 0) table ints a h in
        let second = keyed (db 0) table ints b k in
        absurd (true≢false (sym tie ∙ apart a b h k (ap₂ differ first second ∙ differ_from (id_of a) (id_of b) (sym (ap is_ne (ap₂ value_cmp first second)) ∙ other))))
    | inr same ↦ tied_same (db 0) a b table h k (equal_from (value_cmp (rowid a) (rowid b)) same)
  ]
    where
      equal_from : (o : Ordering) → is_ne o ≡ false → o ≡ Equal
      equal_from Less e = absurd (true≢false e)
      equal_from Equal e = refl
      equal_from Greater e = absurd (true≢false e)
