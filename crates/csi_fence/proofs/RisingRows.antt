-- Rows by rising id: any two of them, and any two places.
use Rattle.std.proofs.Common.{◌≡◌, ℕ, zero, suc, ◌<◌, List, [], ◌∷◌, Bool, length, get_or, ap, arith}
use Rattle.std.specs.Prelude.{◌==◌, filter, slice_get}
use Rattle.std.specs.List.{AllByRecursion}
use Rattle.std.proofs.lemmas.Option.{slice_get-get_or}
use Rattle.csi_types.specs.Model.Members.{EachTwo}
use Rattle.csi_types.specs.Public.Places.{AtMostOne}
use Rattle.csi_types.proofs.Each.{each-place}
use Rattle.csi_types.proofs.Pairs.{two-filter}
use Rattle.csi_types.proofs.PassingByKey.{once-rising}
use Rattle.csi_fence.specs.Public.Rows.{AreRising, id_of}

module _ {S : Type 0} (id : S → ℕ) where
  -- the first has the lower id
  abbrev pub IsBefore : S → S → Type 0
  IsBefore a b = id a < id b

  -- where an id is below the id at each place, it is below each row's
  above_first : (n : ℕ) (rows : List S) → ((place : ℕ) → place < length rows → n < id_of id (slice_get rows place)) → AllByRecursion (λ (row : S). n < id row) rows
  above_first n [] above = tt
  above_first n (row ∷ rows) above = (above 0 (omega arith), above_first n rows (λ place within. above (suc place) (omega arith)))

  -- rows with rising ids have the lower id before the higher, any two of them
  pub rows_rise : (rows : List S) → AreRising id rows → EachTwo IsBefore rows
  rows_rise [] rising = tt
  rows_rise (row ∷ rows) rising = (
    above_first (id row) rows (λ place within. rising 0 (suc place) (omega arith) (omega arith)),
    rows_rise rows (λ i j lt within. rising (suc i) (suc j) (omega arith) (omega arith)),
  )

  -- the id at a place is that of the row there
  pub id_at-row : (rows : List S) (place : ℕ) (d : S) → place < length rows → id_of id (slice_get rows place) ≡ id (get_or rows place d)
  id_at-row rows place d within = ap (id_of id) (slice_get-get_or rows place d within)

  -- where any two rows stand by rising id, so do any two places
  pub rise-rows : (rows : List S) → EachTwo IsBefore rows → AreRising id rows
  rise-rows [] rise i j lt inside = absurd (omega arith)
  rise-rows (row ∷ rows) rise i zero lt inside = absurd (omega arith)
  rise-rows (row ∷ rows) rise zero (suc j) lt inside =
      let there = id_at-row rows j row (omega arith) in
      let before = each-place (IsBefore row) rows j row rise.0 (omega arith) in
      omega (arith, there, before)
  rise-rows (row ∷ rows) rise (suc i) (suc j) lt inside = rise-rows rows rise.1 i j (omega arith) (omega arith)

  -- each id is there once
  pub once-rise : (rows : List S) → EachTwo IsBefore rows → (n : ℕ) → AtMostOne (λ (row : S). id row == n) rows
  once-rise = once-rising id

  -- rows that pass a test rise too
  pub rising-filter : (p : S → Bool) (rows : List S) → AreRising id rows → AreRising id (filter p rows)
  rising-filter p rows rising = rise-rows (filter p rows) (two-filter IsBefore p rows (rows_rise rows rising))
