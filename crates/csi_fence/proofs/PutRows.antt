-- A row that is put among rows by rising id: where it goes, what is found then, and the rules.
use Rattle.std.proofs.Common.{◌≡◌, ℕ, zero, suc, ◌+◌, ◌<◌, List, [], ◌∷◌, length, Bool, true, false, cond, refl, sym, ◌∙◌, ap, subst, arith}
use Rattle.std.specs.Prelude.{All, Option, Some, None, find, ◌==◌, nat_lt, slice_get, slice_set}
use Rattle.std.specs.List.{insert, AllByRecursion}
use Rattle.std.proofs.lemmas.Bool.{eqb-true, ltb-true}
use Rattle.std.proofs.lemmas.Bool.Decides.{nat_tests}
use Rattle.std.proofs.lemmas.List.Elements.{All-from_recursion, recursion_from_All}
use Rattle.csi_types.specs.Model.Members.{EachTwo}
use Rattle.csi_types.specs.Public.Places.{AtMostOne}
use Rattle.csi_types.proofs.Each.{each-weaker}
use Rattle.csi_types.proofs.Options.{some_is_not_none}
use Rattle.csi_types.proofs.Searches.{find-missed}
use Rattle.csi_fence.specs.Public.Rows.{AreRising, IsGapFor, IsPlaceOf, id_of, put_row}
use Rattle.csi_fence.proofs.RisingRows.{IsBefore, rise-rows, rows_rise}

-- where an id isn't lower, and isn't the same, it is higher
pub higher-from : (a b : ℕ) → nat_lt a b ≡ false → (a == b) ≡ false → b < a
higher-from a b h k = grind (arith, nat_tests)

-- a lower id isn't the same
pub lower-other : (a b : ℕ) → nat_lt a b ≡ true → (a == b) ≡ false
lower-other a b h = grind (arith, nat_tests)

-- so many rows, and one more where none is found
abbrev pub grown : {S : Type 0} → Option S → ℕ → ℕ
grown None n = n + 1
grown (Some row) n = n

-- one row more is one row more
grown-suc : {S : Type 0} (o : Option S) (n : ℕ) → suc (grown o n) ≡ grown o (suc n)
grown-suc None n = omega arith
grown-suc (Some row) n = refl

module _ {S : Type 0} (id : S → ℕ) where
  -- the row of an id
  abbrev pub row_of : ℕ → List S → Option S
  row_of n rows = find (λ (row : S). id row == n) rows

  -- ---- where it goes

  -- ids below a place that has the id, or would have it, are lower
  abbrev AreLower : List S → ℕ → ℕ → Type 0
  AreLower rows n place = (j : ℕ) → j < place → id_of id (slice_get rows j) < n

  -- where the ids before a place are lower, they are so behind the first row
  lower_tail : (row : S) (rows : List S) (n place : ℕ) → AreLower (row ∷ rows) n (suc place) → AreLower rows n place
  lower_tail row rows n place lower j lt = lower (suc j) (omega arith)

  -- a row that takes the place of the one of its id
  put-lower : (rows : List S) (place : ℕ) (new : S) → IsPlaceOf id rows (id new) place → AreLower rows (id new) place → put_row id new rows ≡ slice_set rows place new
  put-lower [] place new at lower = absurd (omega (arith, at.within))
  put-lower (row ∷ rows) zero new at lower = grind (arith, nat_tests, at.has_id)
  put-lower (row ∷ rows) (suc place) new at lower =
      let rest = put-lower rows place new (record { within = omega (arith, at.within); has_id = at.has_id }) (lower_tail row rows (id new) place lower) in
      grind (arith, nat_tests, lower 0 (omega arith), rest)

  -- the same, where ids rise
  pub put-set : (rows : List S) (n place : ℕ) (new : S) → AreRising id rows → IsPlaceOf id rows n place → id new ≡ n → put_row id new rows ≡ slice_set rows place new
  put-set rows n place new rising at own =
      put-lower rows place new (subst (λ (m : ℕ). IsPlaceOf id rows m place) (sym own) at) (λ j lt. let below = rising j place lt at.within in omega (arith, below, at.has_id, own))

  -- a row that goes into the gap for it
  put-gap : (rows : List S) (place : ℕ) (new : S) → IsGapFor id rows (id new) place → put_row id new rows ≡ insert rows place new
  put-gap [] zero new gap = refl
  put-gap [] (suc place) new gap = absurd (omega (arith, gap.within))
  put-gap (row ∷ rows) zero new gap = grind (arith, nat_tests, gap.after 0 (omega arith) (omega arith))
  put-gap (row ∷ rows) (suc place) new gap =
      let rest = put-gap rows place new (record {
        within = omega (arith, gap.within);
        before = λ j lt. gap.before (suc j) (omega arith);
        after = λ j le lt. gap.after (suc j) (omega arith) (omega arith);
      }) in
      grind (arith, nat_tests, gap.before 0 (omega arith), rest)

  -- the same, by the id
  pub put-insert : (rows : List S) (n place : ℕ) (new : S) → IsGapFor id rows n place → id new ≡ n → put_row id new rows ≡ insert rows place new
  put-insert rows n place new gap own = put-gap rows place new (subst (λ (m : ℕ). IsGapFor id rows m place) (sym own) gap)

  -- a row below all others goes before them
  pub put-first : (new : S) (rows : List S) → AllByRecursion (IsBefore id new) rows → put_row id new rows ≡ new ∷ rows
  put-first new [] above = refl
  put-first new (row ∷ rows) above = grind (arith, nat_tests, above.0)

  -- ---- what is found then

  -- where all ids are higher, none has this one
  pub row_of-above : (n : ℕ) (rows : List S) → AllByRecursion (λ (row : S). n < id row) rows → row_of n rows ≡ None
  row_of-above n [] above = refl
  row_of-above n (row ∷ rows) above = grind (arith, nat_tests, above.0, row_of-above n rows above.1)

  -- the row is found
  pub put-found : (new : S) (rows : List S) → row_of (id new) (put_row id new rows) ≡ Some new
  put-found new [] = grind (arith, nat_tests)
  put-found new (row ∷ rows) = grind (arith, nat_tests, put-found new rows)

  -- the others are found as they were
  pub put-others : (new : S) (rows : List S) (k : ℕ) → (k == id new) ≡ false → row_of k (put_row id new rows) ≡ row_of k rows
  put-others new [] k other = grind (arith, nat_tests, other)
  put-others new (row ∷ rows) k other = grind (arith, nat_tests, other, put-others new rows k other)

  -- how many rows there are then
  pub put-length : (new : S) (rows : List S) → EachTwo (IsBefore id) rows → length (put_row id new rows) ≡ grown (row_of (id new) rows) (length rows)
  put-length new [] rise = refl
  put-length new (row ∷ rows) rise = by (put-length new rows rise.1) (nat_lt (id row) (id new)) refl (id row == id new) refl
    where
      by : length (put_row id new rows) ≡ grown (row_of (id new) rows) (length rows) → (b : Bool) → nat_lt (id row) (id new) ≡ b → (c : Bool) → (id row == id new) ≡ c
          → length (cond b (row ∷ put_row id new rows) (cond c (new ∷ rows) (new ∷ row ∷ rows))) ≡ grown (cond c (Some row) (row_of (id new) rows)) (suc (length rows))
      by rest true lower true same = let clash : true ≡ false = sym same ∙ lower-other (id row) (id new) lower in cc
      by rest true lower false other = ap suc rest ∙ grown-suc (row_of (id new) rows) (length rows)
      by rest false not_lower true same = refl
      by rest false not_lower false other =
          let below = higher-from (id row) (id new) not_lower other in
          let none : row_of (id new) rows ≡ None = row_of-above (id new) rows (each-weaker (IsBefore id row) (λ (r : S). id new < id r) rows (λ r before. omega (arith, below, before)) rise.0) in
          sym (ap (λ (o : Option S). grown o (suc (length rows))) none ∙ omega arith)

  -- one more, where none is found
  pub put-length_new : (new : S) (rows : List S) → AreRising id rows → row_of (id new) rows ≡ None → length (put_row id new rows) ≡ length rows + 1
  put-length_new new rows rising none = put-length new rows (rows_rise id rows rising) ∙ ap (λ (o : Option S). grown o (length rows)) none

  -- ---- the rules

  -- what is so of the row and of each other one is so of each
  pub put-each : (P : S → Type 0) (new : S) (rows : List S) → P new → AllByRecursion P rows → AllByRecursion P (put_row id new rows)
  put-each P new [] own each = (own, tt)
  put-each P new (row ∷ rows) own each = by (put-each P new rows own each.1) (nat_lt (id row) (id new)) (id row == id new)
    where
      by : AllByRecursion P (put_row id new rows) → (b c : Bool) → AllByRecursion P (cond b (row ∷ put_row id new rows) (cond c (new ∷ rows) (new ∷ row ∷ rows)))
      by rest true c = (each.0, rest)
      by rest false true = (own, each.1)
      by rest false false = (own, each)

  -- the same, by places
  pub put-all : (P : S → Type 0) (new : S) (rows : List S) → P new → All P rows → All P (put_row id new rows)
  put-all P new rows own all = All-from_recursion P (put_row id new rows) (put-each P new rows own (recursion_from_All P rows all))

  -- ids rise then
  pub put-rise : (new : S) (rows : List S) → EachTwo (IsBefore id) rows → EachTwo (IsBefore id) (put_row id new rows)
  put-rise new [] rise = (tt, tt)
  put-rise new (row ∷ rows) rise = by (put-rise new rows rise.1) (nat_lt (id row) (id new)) refl (id row == id new) refl
    where
      by : EachTwo (IsBefore id) (put_row id new rows) → (b : Bool) → nat_lt (id row) (id new) ≡ b → (c : Bool) → (id row == id new) ≡ c
          → EachTwo (IsBefore id) (cond b (row ∷ put_row id new rows) (cond c (new ∷ rows) (new ∷ row ∷ rows)))
      by rest true lower c e = (put-each (IsBefore id row) new rows (ltb-true (id row) (id new) lower) rise.0, rest)
      by rest false not_lower true same =
          let own = eqb-true (id row) (id new) same in
          (each-weaker (IsBefore id row) (IsBefore id new) rows (λ r before. omega (arith, before, own)) rise.0, rise.1)
      by rest false not_lower false other =
          let below = higher-from (id row) (id new) not_lower other in
          ((below, each-weaker (IsBefore id row) (IsBefore id new) rows (λ r before. omega (arith, before, below)) rise.0), rise)

  -- the same, by places
  pub put-rising : (new : S) (rows : List S) → AreRising id rows → AreRising id (put_row id new rows)
  put-rising new rows rising = rise-rows id (put_row id new rows) (put-rise new rows (rows_rise id rows rising))

  -- where the row doesn't pass, and none passes, none passes then
  put-none : (q : S → Bool) (new : S) (rows : List S) → q new ≡ false → find q rows ≡ None → find q (put_row id new rows) ≡ None
  put-none q new [] misses none = rw misses refl
  put-none q new (row ∷ rows) misses none =
      let parts = find-missed (q row) row (find q rows) none in
      by parts (put-none q new rows misses parts.1) (nat_lt (id row) (id new)) (id row == id new)
    where
      by : (q row ≡ false) × (find q rows ≡ None) → find q (put_row id new rows) ≡ None
          → (b c : Bool) → find q (cond b (row ∷ put_row id new rows) (cond c (new ∷ rows) (new ∷ row ∷ rows))) ≡ None
      by parts rest true c = rw (parts.0) rest
      by parts rest false true = rw misses (parts.1)
      by parts rest false false = rw misses (rw (parts.0) (parts.1))

  -- where the row passes only if none did, at most one passes still
  pub put-one : (q : S → Bool) (new : S) (rows : List S) → AtMostOne q rows → (q new ≡ true → find q rows ≡ None) → AtMostOne q (put_row id new rows)
  put-one q new [] one none = (λ e. refl, tt)
  put-one q new (row ∷ rows) one none =
      by (put-one q new rows one.1 (λ e. (find-missed (q row) row (find q rows) (none e)).1)) (nat_lt (id row) (id new)) (id row == id new)
    where
      other : q row ≡ true → (b : Bool) → q new ≡ b → find q (put_row id new rows) ≡ None
      other e true own = absurd (some_is_not_none row (ap (λ (b : Bool). cond b (Some row) (find q rows)) (sym e) ∙ none own))
      other e false own = put-none q new rows own (one.0 e)

      by : AtMostOne q (put_row id new rows) → (b c : Bool) → AtMostOne q (cond b (row ∷ put_row id new rows) (cond c (new ∷ rows) (new ∷ row ∷ rows)))
      by rest true c = (λ e. other e (q new) refl, rest)
      by rest false true = (λ e. (find-missed (q row) row (find q rows) (none e)).1, one.1)
      by rest false false = (none, one)
