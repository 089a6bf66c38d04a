-- Rows that stay where a session begins, and how many are empty.
use Rattle.std.proofs.Common.{◌≡◌, ℕ, zero, suc, ◌+◌, ◌≤◌, List, [], ◌∷◌, Bool, true, false, cond, not, ◌||◌, refl, sym, ◌∙◌, ap, arith}
use Rattle.std.specs.Prelude.{Some, None, filter, count_by, ◌==◌, slice_get, slice_set}
use Rattle.csi_types.proofs.Counts.{count-cons}
use Rattle.csi_fence.specs.Public.Rows.{Plan, stays_in}

-- ---- counts

-- 1 for what passes, else 0
abbrev pub one_if : Bool → ℕ
one_if b = cond b 1 0

-- one that passes counts one
pub counts-one : {b : Bool} → b ≡ true → ◌≡◌ {A = ℕ} (cond b 1 0) 1
counts-one e = ap (λ (b : Bool). cond b 1 0) e

-- and none where it doesn't
pub counts-none : {b : Bool} → b ≡ false → ◌≡◌ {A = ℕ} (cond b 1 0) 0
counts-none e = ap (λ (b : Bool). cond b 1 0) e

module _ {S : Type 0} (p : S → Bool) where
  -- where none fails, all stay
  pub filter-none_fails : (rows : List S) → count_by (λ row. not (p row)) rows ≡ 0 → filter p rows ≡ rows
  filter-none_fails [] none = refl
  filter-none_fails (row ∷ rows) none = by (p row) (sym (count-cons (λ row. not (p row)) row rows) ∙ none) (filter-none_fails rows)
    where
      by : (b : Bool) → cond (not b) 1 0 + count_by (λ row. not (p row)) rows ≡ 0 → (count_by (λ row. not (p row)) rows ≡ 0 → filter p rows ≡ rows) → cond b (row ∷ filter p rows) (filter p rows) ≡ row ∷ rows
      by true count rest = ap (λ (l : List S). row ∷ l) (rest (omega (arith, count)))
      by false count rest = absurd (omega (arith, count))

  -- a row that is put in the place of one
  pub count-set : (rows : List S) (place : ℕ) (old new : S) → slice_get rows place ≡ Some old → count_by p (slice_set rows place new) + cond (p old) 1 0 ≡ count_by p rows + cond (p new) 1 0
  count-set [] place old new is = absurd (clash is)
    where
      clash : None ≡ Some old → ⊥
      clash h = cc
  count-set (row ∷ rows) zero old new is =
      let same : row ≡ old = own is in
      let first = count-cons p new rows in
      let second : count_by p (row ∷ rows) ≡ cond (p old) 1 0 + count_by p rows = count-cons p row rows ∙ ap (λ (s : S). cond (p s) 1 0 + count_by p rows) same in
      omega (arith, first, second)
    where
      own : Some row ≡ Some old → row ≡ old
      own h = cc
  count-set (row ∷ rows) (suc place) old new is = omega (arith, count-cons p row (slice_set rows place new), count-cons p row rows, count-set rows place old new is)

  -- one that passes is counted
  pub count-some : (rows : List S) (place : ℕ) (row : S) → slice_get rows place ≡ Some row → p row ≡ true → 1 ≤ count_by p rows
  count-some [] place row is passes = absurd (clash is)
    where
      clash : None ≡ Some row → ⊥
      clash h = cc
  count-some (first ∷ rows) zero row is passes =
      let counted : ◌≡◌ {A = ℕ} (cond (p first) 1 0) 1 = ap (λ (s : S). cond (p s) 1 0) (own is) ∙ ap (λ (b : Bool). cond b 1 0) passes in
      omega (arith, count-cons p first rows, counted)
    where
      own : Some first ≡ Some row → first ≡ row
      own h = cc
  count-some (first ∷ rows) (suc place) row is passes = omega (arith, count-cons p first rows, count-some rows place row is passes)

-- ---- rows that stay

module _ {Fixed Own S : Type 0} (plan : Plan Fixed Own S) where
  -- a row that doesn't stay is empty
  pub goes-empty : (session : ℕ) (row : S) → stays_in plan session row ≡ false → plan.is_empty row ≡ true
  goes-empty session row goes = by (plan.is_empty row) goes
    where
      by : (b : Bool) → (not b || ((plan.kept row).number.session == session)) ≡ false → b ≡ true
      by true e = refl
      by false e = sym e

  -- so the empty rows are those that stay, and those that go
  pub count-staying : (session : ℕ) (rows : List S) → count_by plan.is_empty rows ≡ count_by plan.is_empty (filter (stays_in plan session) rows) + count_by (λ row. not (stays_in plan session row)) rows
  count-staying session [] = refl
  count-staying session (row ∷ rows) =
      by (stays_in plan session row) (goes-empty session row) (sym (count-cons (λ r. not (stays_in plan session r)) row rows)) (count-staying session rows)
    where
      by : (b : Bool) → (b ≡ false → plan.is_empty row ≡ true) → cond (not b) 1 0 + count_by (λ r. not (stays_in plan session r)) rows ≡ count_by (λ r. not (stays_in plan session r)) (row ∷ rows)
          → count_by plan.is_empty rows ≡ count_by plan.is_empty (filter (stays_in plan session) rows) + count_by (λ r. not (stays_in plan session r)) rows
          → count_by plan.is_empty (row ∷ rows) ≡ count_by plan.is_empty (cond b (row ∷ filter (stays_in plan session) rows) (filter (stays_in plan session) rows)) + count_by (λ r. not (stays_in plan session r)) (row ∷ rows)
      by true empty goes rest = omega (arith, count-cons plan.is_empty row rows, count-cons plan.is_empty row (filter (stays_in plan session) rows), goes, rest)
      by false empty goes rest =
          let own : ◌≡◌ {A = ℕ} (cond (plan.is_empty row) 1 0) 1 = ap (λ (b : Bool). cond b 1 0) (empty refl) in
          omega (arith, count-cons plan.is_empty row rows, own, goes, rest)
