-- Where the row of an id is found among rows by rising id.
use Rattle.std.proofs.Common.{◌≡◌, ℕ, zero, suc, List, [], ◌∷◌, refl, arith, Result, Ok, Err, IfOk, IfErr}
use Rattle.std.specs.Prelude.{Some, None, position, ◌==◌}
use Rattle.std.specs.Result.{result_ok}
use Rattle.std.proofs.lemmas.Bool.Decides.{nat_tests}
use Rattle.csi_types.specs.Public.Places.{FirstAt}
use Rattle.csi_types.proofs.Places.{position-first, position-none}
use Rattle.csi_fence.specs.Public.Rows.{AreRising, IsGapFor, IsPlaceOf}
use Rattle.csi_fence.proofs.PlacedRows.{NoneBefore}
use Rattle.csi_fence.proofs.RisingRows.{id_at-row}

module _ {S : Type 0} (id : S → ℕ) where
  -- the row at a place that has the id is the first that has it, where none before has
  first-at : (rows : List S) (n place : ℕ) → IsPlaceOf id rows n place → NoneBefore id rows n place → (row : S) × FirstAt (λ (row : S). id row == n) rows place row
  first-at [] n place at none = absurd (omega (arith, at.within))
  first-at (row ∷ rows) n zero at none = (row, (grind (arith, nat_tests, at.has_id), refl))
  first-at (row ∷ rows) n (suc place) at none =
      let rest = first-at rows n place (record { within = omega (arith, at.within); has_id = at.has_id }) (λ j lt. none (suc j) (omega arith)) in
      (rest.0, (grind (arith, nat_tests, none 0 (omega arith)), rest.1))

  -- so it is found there
  pub position-at : (rows : List S) (n place : ℕ) → AreRising id rows → IsPlaceOf id rows n place → Some place ≡ position (λ (row : S). id row == n) rows
  position-at rows n place rising at =
      let first = first-at rows n place at (λ j lt same. omega (arith, rising j place lt at.within, at.has_id, same)) in
      position-first (λ (row : S). id row == n) rows place first.0 first.1

  -- where there is a gap for the id none is found
  pub position-gap : (rows : List S) (n place : ℕ) → IsGapFor id rows n place → None ≡ position (λ (row : S). id row == n) rows
  position-gap rows n place gap =
      position-none (λ (row : S). id row == n) rows (λ k d within.
      let here = id_at-row id rows k d within in grind (arith, nat_tests, here, gap.before k, gap.after k))

  -- what a search by id gives is where the id is found
  pub found-place : (rows : List S) (n : ℕ) (r : Result ℕ ℕ) → AreRising id rows → IfOk r (IsPlaceOf id rows n) → IfErr r (IsGapFor id rows n) → result_ok r ≡ position (λ (row : S). id row == n) rows
  found-place rows n (Ok place) rising at gap = position-at rows n place rising at
  found-place rows n (Err place) rising at gap = position-gap rows n place gap
