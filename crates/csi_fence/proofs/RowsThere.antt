-- The call's row where it is found among rows, and among those that stay.
use Rattle.std.proofs.Common.{◌≡◌, ◌<◌, ℕ, zero, suc, Bool, true, false, cond, not, List, [], ◌∷◌, map, length, get_or, refl, sym, ◌∙◌, ap, subst, arith}
use Rattle.std.specs.Prelude.{All, Some, None, count_by, option_map, find, filter, position, slice_get, nat_lt}
use Rattle.std.specs.List.{position_or_len}
use Rattle.std.proofs.lemmas.Bool.{ltb-true}
use Rattle.std.proofs.lemmas.List.{length-map}
use Rattle.std.proofs.lemmas.List.Folds.{find_at}
use Rattle.std.proofs.lemmas.Option.{same_Some, slice_get-get_or, slice_get-map, slice_get_read, slice_get_within}
use Rattle.csi_types.specs.declared.number.Number.{Number}
use Rattle.csi_types.specs.Public.Places.{AtMostOne, IsAt}
use Rattle.csi_types.proofs.PassingByKey.{find-passing, passing}
use Rattle.csi_types.proofs.Searches.{find-none_in_filter, find-no_place}
use Rattle.csi_fence.specs.Model.Fence.{begins}
use Rattle.csi_fence.specs.Public.Rows.{staying}
use Rattle.csi_fence.proofs.AnsweredRows.{staying-full}
use Rattle.csi_fence.proofs.StayingRows.{count-some}

-- something isn't nothing
pub some_none : {X : Type 0} {A : Type 0} (x : X) → Some x ≡ None → A
some_none x h = cc

-- ---- the row at a place

-- the row at the place that a search gives is the one that it finds
pub found-there : {S : Type 0} (p : S → Bool) (rows : List S) (place : ℕ) → Some place ≡ position p rows → (find p rows ≡ slice_get rows place) × (place < length rows)
found-there p rows place is = by (nat_lt (position_or_len p rows) (length rows)) refl is
  where
    by : (b : Bool) → nat_lt (position_or_len p rows) (length rows) ≡ b → Some place ≡ cond b (Some (position_or_len p rows)) None → (find p rows ≡ slice_get rows place) × (place < length rows)
    by true inside at =
        let same : position_or_len p rows ≡ place = sym (same_Some place (position_or_len p rows) at) in
        (find_at p rows ∙ ap (slice_get rows) same, subst (λ (n : ℕ). n < length rows) same (ltb-true (position_or_len p rows) (length rows) inside))
    by false inside at = some_none place at

-- what is got at a place stands there
pub at-got : {S : Type 0} (rows : List S) (place : ℕ) (row : S) → slice_get rows place ≡ Some row → IsAt rows place row
at-got [] place row h = some_none row (sym h)
at-got (other ∷ rows) zero row h = cc
at-got (other ∷ rows) (suc place) row h = at-got rows place row h

-- where there is no place there is no such row
pub absent-there : {S : Type 0} (p : S → Bool) (rows : List S) → None ≡ position p rows → find p rows ≡ None
absent-there p rows none = find-no_place p rows (sym none)

-- a row that is read at a place, as it is shown
pub shown-at : {R S : Type 0} (shown : R → S) (rows : List R) (place : ℕ) (row : R) → row ≡ get_or rows place row → place < length rows → slice_get (map shown rows) place ≡ Some (shown row)
shown-at shown rows place row is inside = slice_get-map shown rows place ∙ ap (option_map shown) (slice_get_read rows (length rows) place row refl inside is)

-- so is one that is read at the place that a search gives
pub placed-at : {R S : Type 0} (shown : R → S) (p : S → Bool) (rows : List R) (place : ℕ) (row : R) → Some place ≡ position p (map shown rows) → row ≡ get_or rows place row → slice_get (map shown rows) place ≡ Some (shown row)
placed-at shown p rows place row is read =
    let inside = (found-there p (map shown rows) place is).1 in
    let many = length-map rows shown in
    shown-at shown rows place row read (omega (arith, inside, many))

-- what is so of each is so of the row there
pub all-at : {S : Type 0} (P : S → Type 0) (rows : List S) (place : ℕ) (row : S) → All P rows → slice_get rows place ≡ Some row → P row
all-at P rows place row all at = let inside = slice_get_within rows place row at in subst P (same_Some (get_or rows place row) row (sym (slice_get-get_or rows place row inside) ∙ at)) (all place row inside)

-- where none is empty, it isn't
pub full-at : {S : Type 0} (is_empty : S → Bool) (rows : List S) (place : ℕ) (row : S) → count_by is_empty rows ≡ 0 → slice_get rows place ≡ Some row → is_empty row ≡ false
full-at is_empty rows place row none at = by (is_empty row) refl
  where
    by : (b : Bool) → is_empty row ≡ b → b ≡ false
    by true e = let one = count-some is_empty rows place row at e in absurd (omega (arith, one, none))
    by false e = refl

-- ---- among those that stay

module _ {S : Type 0} (p is_empty : S → Bool) (session : ℕ) (number : Number) (rows : List S) where
  -- a row that isn't empty where a session begins is found among them
  pub found-staying : (row : S) → AtMostOne p rows → find p rows ≡ Some row → (session < number.session → is_empty row ≡ false) → find p (staying is_empty session number rows) ≡ Some row
  found-staying row one found full = by (begins session number) refl
    where
      by : (b : Bool) → begins session number ≡ b → find p (cond b (filter (λ (r : S). not (is_empty r)) rows) rows) ≡ Some row
      by true e =
          find-passing p (λ (r : S). not (is_empty r)) rows one
          ∙ ap (passing (λ (r : S). not (is_empty r))) found
          ∙ ap (λ (b : Bool). cond (not b) (Some row) None) (full (ltb-true session number.session e))
      by false e = found

  -- one that is empty there isn't
  pub none-staying : (row : S) → AtMostOne p rows → find p rows ≡ Some row → session < number.session → is_empty row ≡ true → find p (staying is_empty session number rows) ≡ None
  none-staying row one found later empty =
      ap (find p) (staying-full is_empty session number rows later)
      ∙ find-passing p (λ (r : S). not (is_empty r)) rows one
      ∙ ap (passing (λ (r : S). not (is_empty r))) found
      ∙ ap (λ (b : Bool). cond (not b) (Some row) None) empty

  -- nor is one that isn't there at all
  pub absent-staying : find p rows ≡ None → find p (staying is_empty session number rows) ≡ None
  absent-staying none = by (begins session number)
    where
      by : (b : Bool) → find p (cond b (filter (λ (r : S). not (is_empty r)) rows) rows) ≡ None
      by true = find-none_in_filter p (λ (r : S). not (is_empty r)) rows none
      by false = none
