-- The parts of a store as rows of a table: changes of the one are changes of the other, and the rows have one list of parts.
use Rattle.std.proofs.Common.{◌≡◌, ℕ, suc, zero, ◌^◌, ◌<◌, ◌≤◌, Bool, true, false, not, cond, Some, None, List, [], ◌∷◌, map, refl, sym, ap, ap₂, subst, ◌∙◌, arith, Less, Ordering, is_lt, IsPermutation, IsSorted, add-one}
use Rattle.std.specs.Prelude.{◌==◌, nat_lt}
use Rattle.std.specs.List.{AllByRecursion}
use Rattle.std.specs.Ordering.{nat_cmp, on, ordering_reverse}
use Rattle.std.specs.Cmp.{IsTotalOrder}
use Rattle.std.specs.Cmp.Lexicographic.{slice_cmp}
use Rattle.std.proofs.lemmas.Cmp.{on_total}
use Rattle.std.proofs.lemmas.Bool.Decides.{nat_tests}
use Rattle.std.proofs.lemmas.List.Sorted.{IsPermutation-refl, IsPermutation-sym, IsPermutation-cons, IsPermutation-trans, IsPermutation-map, IsPermutation-middle}
use Rattle.byteorder.specs.Endian.{big_bytes, big_number}
use Rattle.sqlite_value.specs.Order.{Row, bytes, column, value_cmp}
use Rattle.sqlite_value.proofs.OrderLemmas.{value_cmp_total, value_cmp-Blob}
use Rattle.sqlite_trees.specs.Tree.{Trees, IsAscending}
use Rattle.sqlite.specs.Effect.{Database}
use Rattle.sqlite_keyed.proofs.ListLemmas.{all-filter, filter_all}
use Rattle.sqlite_keyed.proofs.SortLemmas.{sorted_unique}
use Rattle.sqlite.specs.State.{State, IsUnchanged}
use Rattle.csi_sqlite.specs.Public.Rows.{KeyedRow, cells, without, AreRising, StoresRows, HasRows}
use Rattle.csi_stores.specs.Public.Part.{StoredPart}
use Rattle.csi_stores.specs.Public.Content.{put_in, take_out, AreRisingParts}
use Rattle.csi_sqlite.specs.Public.Tables.{keyed_row, AreKeys, StoresParts, HasParts, HoldsParts}
use Rattle.csi_stores.proofs.RisingChanges.{AreAbove, rising-all}
use Rattle.csi_sqlite.proofs.KeyOrder.{key_below, key_back, same_key}

-- ---- in their order

-- parts by rising key are rows by rising key
pub rising_rows : (content : List StoredPart) → AreRisingParts content → AreKeys content → AreRising (map keyed_row content)
rising_rows [] rising keys = tt
rising_rows (part ∷ parts) rising keys = (go parts rising.0 keys.1, rising_rows parts rising.1 keys.1)
  where
    go : (later : List StoredPart) → AreAbove part.key later → AreKeys later → AllByRecursion (λ (row : KeyedRow). slice_cmp nat_cmp (big_bytes 8 part.key) row.key ≡ Less) (map keyed_row later)
    go [] above fits = tt
    go (p ∷ ps) above fits = (key_below part.key p.key above.0 fits.0, go ps above.1 fits.1)

-- ---- one list of parts

-- a list in which each value is below the later ones is sorted
pub sorted_from : {X : Type 0} (cmp : X → X → Ordering) → IsTotalOrder cmp → (xs : List X) → IsAscending (λ a b. cmp a b ≡ Less) xs → IsSorted cmp xs
sorted_from cmp total [] up k d low within = absurd (omega arith)
sorted_from cmp total (x ∷ []) up k d low within = absurd (omega arith)
sorted_from cmp total (x ∷ y ∷ xs) up zero d low within = ap is_lt (total.antisymm y x ∙ ap ordering_reverse up.0.0)
sorted_from cmp total (x ∷ y ∷ xs) up (suc k) d low within = rw add-one (rw add-one at (sorted_from cmp total (y ∷ xs) up.1 k d (omega arith) (omega arith)))

-- the order by the first column
abbrev pub by_key : Row → Row → Ordering
by_key = on (λ c. column c 0) value_cmp

-- the order by the first column is a total one
pub by_key_total : IsTotalOrder by_key
by_key_total = on_total (λ c. column c 0) value_cmp_total

-- rows by rising key rise by their first column
strict_cells : (rows : List KeyedRow) → AreRising rows → IsAscending (λ a b. by_key a b ≡ Less) (map cells rows)
strict_cells [] rising = tt
strict_cells (row ∷ rows) rising = (go rows rising.0, strict_cells rows rising.1)
  where
    go : (later : List KeyedRow) → AllByRecursion (λ (b : KeyedRow). slice_cmp nat_cmp row.key b.key ≡ Less) later → AllByRecursion (λ c. by_key (cells row) c ≡ Less) (map cells later)
    go [] h = tt
    go (b ∷ later) h = (value_cmp-Blob row.key b.key ∙ h.0, go later h.1)

-- the part that two cells are
abbrev part_in : Row → StoredPart
part_in c = record { key = big_number 8 (bytes (column c 0)); value = bytes (column c 1) }

-- the columns of parts' rows are these parts again
parts_back : (content : List StoredPart) → AreKeys content → map part_in (map cells (map keyed_row content)) ≡ content
parts_back [] keys = refl
parts_back (part ∷ parts) keys = ap₂ (λ (k : ℕ) (l : List StoredPart). record { key = k; value = part.value } ∷ l) (key_back part.key keys.0) (parts_back parts keys.1)

-- a database has one list of parts
pub one_content : (db : Trees) (a b : List StoredPart) → StoresParts db a → StoresParts db b → b ≡ a
one_content db a b are also =
    let same = IsPermutation-trans _ _ _ (IsPermutation-sym _ _ are.rows.stored.same) also.rows.stored.same in
    let strict = strict_cells (map keyed_row a) (rising_rows a are.rising are.keys) in
    let sorted = sorted_from by_key by_key_total _ (strict_cells (map keyed_row b) (rising_rows b also.rising also.keys)) in
    sym (parts_back b also.keys) ∙ ap (map part_in) (sorted_unique by_key by_key_total _ _ strict same sorted) ∙ parts_back a are.keys

-- where a connection sees these parts, its database has them
pub stores : (s : State) (content : List StoredPart) → HasParts s content → StoresParts s.now.trees content
stores s content has = record { rows = has.rows.stores; rising = has.rising; keys = has.keys }

-- a statement that changes nothing
pub still_holds : (old new : State) (content : List StoredPart) → IsUnchanged old new → HoldsParts old content → HoldsParts new content
still_holds old new content same has = (
  record {
    rows = record {
      is_open = same.0.is_open;
      declared = ap (λ (d : Database). d.schema) same.0.now_is ∙ has.0.rows.declared;
      stores = subst (λ (d : Database). StoresRows d.trees (map keyed_row content)) (sym same.0.now_is) has.0.rows.stores;
    };
    rising = has.0.rising;
    keys = has.0.keys;
  },
  record { autocommit = same.0.mode ∙ has.1.autocommit; committed = same.0.now_is ∙ has.1.committed ∙ sym same.0.committed_is },
)

-- ---- changes

-- keys of 64 bits stay so where a part is put in
keys-put : (part : StoredPart) (parts : List StoredPart) → part.key < 2 ^ 64 → AreKeys parts → AreKeys (put_in part parts)
keys-put part [] fits keys = (fits, tt)
keys-put part (other ∷ others) fits keys = by (nat_lt other.key part.key) (other.key == part.key) (keys-put part others fits keys.1)
  where
    by : (b c : Bool) → AreKeys (put_in part others) → AreKeys (cond b (other ∷ put_in part others) (cond c (part ∷ others) (part ∷ other ∷ others)))
    by true c rest = (keys.0, rest)
    by false true rest = (fits, keys.1)
    by false false rest = (fits, keys)

-- none has the key
abbrev Lacks : ℕ → List StoredPart → Type 0
Lacks key = AllByRecursion (λ (part : StoredPart). not (part.key == key) ≡ true)

-- where all keys are above one, none of them is it or a lower one
above_lacks : (key low : ℕ) (parts : List StoredPart) → key ≤ low → AreAbove low parts → Lacks key parts
above_lacks key low [] most above = tt
above_lacks key low (part ∷ parts) most above = ((let less = above.0 in grind (arith, nat_tests)), above_lacks key low parts most above.1)

-- taking out a key that no part has changes nothing
none_out : (key : ℕ) (parts : List StoredPart) → Lacks key parts → take_out key parts ≡ parts
none_out key parts lacks = filter_all (λ part. not (part.key == key)) parts lacks

-- a part that is put in goes before those of other keys, but for the order
put_moves : (part : StoredPart) (parts : List StoredPart) → AreRisingParts parts → IsPermutation (part ∷ take_out part.key parts) (put_in part parts)
put_moves part [] rising = IsPermutation-refl _
put_moves part (other ∷ others) rising = by (nat_lt other.key part.key) (other.key == part.key) refl refl (put_moves part others rising.1)
  where
    by : (b c : Bool) → nat_lt other.key part.key ≡ b → (other.key == part.key) ≡ c → IsPermutation (part ∷ take_out part.key others) (put_in part others)
        → IsPermutation (part ∷ cond (not c) (other ∷ take_out part.key others) (take_out part.key others)) (cond b (other ∷ put_in part others) (cond c (part ∷ others) (part ∷ other ∷ others)))
    by true true t u more = let h : ⊥ = grind (arith, nat_tests) in absurd h
    by true false t u more = IsPermutation-trans _ _ _ (IsPermutation-middle (part ∷ []) other (take_out part.key others)) (IsPermutation-cons other _ _ more)
    by false true t u more =
        let same : other.key ≡ part.key = grind (arith, nat_tests) in
        let none = none_out part.key others (above_lacks part.key other.key others (omega arith) rising.0) in
        subst (λ l. IsPermutation (part ∷ l) (part ∷ others)) (sym none) (IsPermutation-refl _)
    by false false t u more =
        let less : part.key < other.key = grind (arith, nat_tests) in
        let none = none_out part.key others (above_lacks part.key other.key others (omega arith) rising.0) in
        subst (λ l. IsPermutation (part ∷ other ∷ l) (part ∷ other ∷ others)) (sym none) (IsPermutation-refl _)

-- the rows of other keys are those of the parts that are left without the key
pub without-parts : (key : ℕ) (parts : List StoredPart) → key < 2 ^ 64 → AreKeys parts → without (big_bytes 8 key) (map keyed_row parts) ≡ map keyed_row (take_out key parts)
without-parts key [] fits keys = refl
without-parts key (part ∷ parts) fits keys = rw (same_key part.key key keys.0 fits) (by (part.key == key) (without-parts key parts fits keys.1))
  where
    by : (b : Bool) → without (big_bytes 8 key) (map keyed_row parts) ≡ map keyed_row (take_out key parts)
        → cond (not b) (keyed_row part ∷ without (big_bytes 8 key) (map keyed_row parts)) (without (big_bytes 8 key) (map keyed_row parts)) ≡ map keyed_row (cond (not b) (part ∷ take_out key parts) (take_out key parts))
    by true more = more
    by false more = ap (λ l. keyed_row part ∷ l) more

-- rows in another order
pub moved_rows : (s : State) (a b : List StoredPart) → IsPermutation a b → HasRows s (map keyed_row a) → HasRows s (map keyed_row b)
moved_rows s a b moves h = record {
  is_open = h.is_open;
  declared = h.declared;
  stores = record {
    listed = h.stores.listed;
    stored = record { ordered = h.stores.stored.ordered; numbered = h.stores.stored.numbered; same = IsPermutation-trans _ _ _ h.stores.stored.same (IsPermutation-map cells _ _ (IsPermutation-map keyed_row a b moves)) };
  };
}

-- a part's row, beside the rows of other keys, is the parts with this one put in
pub put_has : (s : State) (part : StoredPart) (content : List StoredPart) → part.key < 2 ^ 64 → AreRisingParts content → AreKeys content
    → HasRows s (keyed_row part ∷ without (big_bytes 8 part.key) (map keyed_row content)) → HasParts s (put_in part content)
put_has s part content fits rising keys h = record {
  rows = moved_rows s _ _ (put_moves part content rising) (subst (λ l. HasRows s (keyed_row part ∷ l)) (without-parts part.key content fits keys) h);
  rising = rising-all (record { key = part.key; value = Some part.value } ∷ []) content rising;
  keys = keys-put part content fits keys;
}

-- the rows of other keys are the parts with that key taken out
pub removed_has : (s : State) (key : ℕ) (content : List StoredPart) → key < 2 ^ 64 → AreRisingParts content → AreKeys content → HasRows s (without (big_bytes 8 key) (map keyed_row content)) → HasParts s (take_out key content)
removed_has s key content fits rising keys h = record {
  rows = subst (HasRows s) (without-parts key content fits keys) h;
  rising = rising-all (record { key = key; value = None } ∷ []) content rising;
  keys = all-filter _ _ content keys;
}
