-- A search among rows by rising id finds the id or its gap, and what stands there.
use Rattle.std.proofs.Common.{◌≡◌, ◌≢◌, ℕ, zero, suc, ◌+◌, ◌<◌, ◌≤◌, List, [], ◌∷◌, ◌++◌, map, length, get_or, take, drop, refl, sym, ◌∙◌, ap, subst, arith, ◌⊎◌, inl, inr, Result, Ok, Err, IfOk, IfErr}
use Rattle.std.specs.Prelude.{Some, None, Bool, cond, count_by, slice_get, slice_set}
use Rattle.std.specs.List.{insert}
use Rattle.std.specs.List.Sorted.{IsSearchInRange, IsBinarySearchResult, IsNonDecreasingBy}
use Rattle.std.specs.Ordering.{nat_cmp, ordering_index}
use Rattle.std.proofs.lemmas.Cmp.{ranked}
use Rattle.std.proofs.lemmas.List.{map-append, take-map, drop-map, length-map}
use Rattle.std.proofs.lemmas.List.Sums.{sum_by-insert}
use Rattle.std.proofs.lemmas.Bool.Decides.{nat_tests}
use Rattle.csi_fence.specs.Public.Rows.{AreRising, IsGapFor, IsPlaceOf, id_of, put_row}
use Rattle.csi_fence.proofs.PutRows.{put-insert, row_of}

module _ {S : Type 0} (id : S → ℕ) where
  -- no row before the place has the id
  abbrev pub NoneBefore : List S → ℕ → ℕ → Type 0
  NoneBefore rows n place = (j : ℕ) → j < place → id_of id (slice_get rows j) ≢ n

  -- where no row before a place has the id, none of those behind the first has it
  tail_none : (row : S) (rows : List S) (n place : ℕ) → NoneBefore (row ∷ rows) n (suc place) → NoneBefore rows n place
  tail_none row rows n place none j lt = none (suc j) (omega arith)

  -- the row of an id behind the first row is one place earlier in the rest
  tail_at : (row : S) (rows : List S) (n place : ℕ) → IsPlaceOf id (row ∷ rows) n (suc place) → IsPlaceOf id rows n place
  tail_at row rows n place at = record { within = omega (arith, at.within); has_id = at.has_id }

  -- an id that no row has is not found
  pub row_of-absent : (rows : List S) (n : ℕ) → NoneBefore rows n (length rows) → row_of id n rows ≡ None
  row_of-absent [] n none = refl
  row_of-absent (row ∷ rows) n none = grind (arith, nat_tests, none 0 (omega arith), row_of-absent rows n (tail_none row rows n _ none))

  -- the first row that has it is found
  pub row_of-present : (rows : List S) (n place : ℕ) → IsPlaceOf id rows n place → NoneBefore rows n place → row_of id n rows ≡ slice_get rows place
  row_of-present [] n place at none = absurd (omega (arith, at.within))
  row_of-present (row ∷ rows) n zero at none = grind (arith, nat_tests, at.has_id)
  row_of-present (row ∷ rows) n (suc place) at none = grind (arith, nat_tests, none 0 (omega arith), row_of-present rows n place (tail_at row rows n place at) (tail_none row rows n place none))

  -- a row that is there is found
  pub found-at : (rows : List S) (n place : ℕ) → AreRising id rows → IsPlaceOf id rows n place → row_of id n rows ≡ slice_get rows place
  found-at rows n place rising at = row_of-present rows n place at (λ j lt same. omega (arith, rising j place lt at.within, at.has_id, same))

  -- an id that has a gap isn't found
  pub absent-gap : (rows : List S) (n place : ℕ) → IsGapFor id rows n place → row_of id n rows ≡ None
  absent-gap rows n place gap = row_of-absent rows n (λ j lt same. grind (arith, gap.before j, gap.after j))

  -- ---- what is got at a place

  -- a row that is put in the place of one
  pub set-got : (rows : List S) (place : ℕ) (new : S) → place < length rows → slice_get (slice_set rows place new) place ≡ Some new
  set-got [] place new inside = absurd (omega (arith, inside))
  set-got (row ∷ rows) zero new inside = refl
  set-got (row ∷ rows) (suc place) new inside = set-got rows place new (omega (arith, inside))

  -- a row that is put between two
  pub insert-got : (rows : List S) (place : ℕ) (new : S) → place ≤ length rows → slice_get (insert rows place new) place ≡ Some new
  insert-got [] zero new inside = refl
  insert-got [] (suc place) new inside = absurd (omega (arith, inside))
  insert-got (row ∷ rows) zero new inside = refl
  insert-got (row ∷ rows) (suc place) new inside = insert-got rows place new (omega (arith, inside))

  -- ---- a search

  -- where none has the id, a search ends in its gap
  pub gap-searched : (rows : List S) (n place : ℕ) (r : Result ℕ ℕ) → AreRising id rows → row_of id n rows ≡ None → IfOk r (IsPlaceOf id rows n) → IfErr r (IsGapFor id rows n) → (r ≡ Ok place) ⊎ (r ≡ Err place) → IsGapFor id rows n place
  gap-searched rows n place r rising none found absent (inl e) =
      let at : IsPlaceOf id rows n place = subst (λ (r : Result ℕ ℕ). IfOk r (IsPlaceOf id rows n)) e found in
      absurd (clash rows place at.within (sym (found-at rows n place rising at) ∙ none))
    where
      clash : (rows : List S) (place : ℕ) → place < length rows → slice_get rows place ≡ None → ⊥
      clash [] place inside h = omega (arith, inside)
      clash (row ∷ rows) zero inside h = cc
      clash (row ∷ rows) (suc place) inside h = clash rows place (omega (arith, inside)) h
  gap-searched rows n place r rising none found absent (inr e) = subst (λ (r : Result ℕ ℕ). IfErr r (IsGapFor id rows n)) e absent

  -- where a search ended: at the row of the id, or in the gap for it
  pub record Searched (rows : List S) (n : ℕ) (r : Result ℕ ℕ) : Type 0 where
    pub found : IfOk r (IsPlaceOf id rows n)
    pub absent : IfErr r (IsGapFor id rows n)

module _ {R S : Type 0} (id : S → ℕ) (shown : R → S) where
  -- the id at a place of the rows as they are shown is that of the row there
  pub id_at-shown : (rows : List R) (place : ℕ) (d : R) → place < length rows → id_of id (slice_get (map shown rows) place) ≡ id (shown (get_or rows place d))
  id_at-shown [] place d within = absurd (omega arith)
  id_at-shown (row ∷ rows) zero d within = refl
  id_at-shown (row ∷ rows) (suc place) d within = id_at-shown rows place d (omega arith)

  -- where ids rise, so do their comparisons with an id
  comparisons_rise : (rows : List R) (n : ℕ) → AreRising id (map shown rows) → IsNonDecreasingBy (λ (row : R). ordering_index (nat_cmp (id (shown row)) n)) rows
  comparisons_rise rows n rising = λ i j d le within.
      let many = length-map rows shown in
      let first : id_of id (slice_get (map shown rows) i) ≡ id (shown (get_or rows i d)) = id_at-shown rows i d (omega arith) in
      let second : id_of id (slice_get (map shown rows) j) ≡ id (shown (get_or rows j d)) = id_at-shown rows j d within in
      let same : i ≡ j → id_of id (slice_get (map shown rows) i) ≡ id_of id (slice_get (map shown rows) j) = λ e. ap (λ (k : ℕ). id_of id (slice_get (map shown rows) k)) e in
      let less : i < j → id_of id (slice_get (map shown rows) i) < id_of id (slice_get (map shown rows) j) = λ lt. rising i j lt (omega arith) in
      let rise : id (shown (get_or rows i d)) ≤ id (shown (get_or rows j d)) = grind (arith, first, second, same, less) in
      grind (arith, nat_tests)

  -- a binary search ends at the id, or at the gap for it
  pub searched : (rows : List R) (n : ℕ) (r : Result ℕ ℕ) → AreRising id (map shown rows) → IsSearchInRange r (length rows) → IsBinarySearchResult (λ (row : R). nat_cmp (id (shown row)) n) rows r
      → Searched id (map shown rows) n r
  searched [] n (Ok at) rising within equal = absurd (omega arith)
  searched [] n (Err at) rising within parted = record { found = tt; absent = record { within = within; before = λ j lt. absurd (omega arith); after = λ j le lt. absurd (omega arith) } }
  searched (first ∷ rest) n (Ok at) rising within equal =
      let rows : List R = first ∷ rest in
      let many = length-map rows shown in
      record { found = record { within = omega arith; has_id = id_at-shown rows at first within ∙ ranked _ n _ (sym (equal first)) }; absent = tt }
  searched (first ∷ rest) n (Err at) rising within parted =
      let rows : List R = first ∷ rest in
      let many = length-map rows shown in
      let halves = parted (comparisons_rise rows n rising) in
      record {
        found = tt;
        absent = record {
          within = omega arith;
          before = λ j lt.
              let here = id_at-shown rows j first (omega arith) in
              let below : id (shown (get_or rows j first)) < n = ranked _ n _ (sym (halves.0 j first (omega arith) lt)) in
              omega arith;
          after = λ j le lt.
              let inside : j < length rows = omega arith in
              let here = id_at-shown rows j first inside in
              let above : n < id (shown (get_or rows j first)) = ranked _ n _ (sym (halves.1 j first le inside)) in
              omega arith;
        };
      }

  -- inserting a row inserts what is shown of it among what is shown
  pub shown-insert : (rows : List R) (place : ℕ) (row : R) → map shown (insert rows place row) ≡ insert (map shown rows) place (shown row)
  shown-insert rows place row =
      map-append shown (take place rows) (row ∷ drop place rows)
      ∙ ap (λ (front : List S). front ++ shown row ∷ map shown (drop place rows)) (sym (take-map shown place rows))
      ∙ ap (λ (back : List S). take place (map shown rows) ++ shown row ∷ back) (sym (drop-map shown place rows))

  -- a new row was put in
  pub record WasPut (rows after : List R) (place : ℕ) (row : R) : Type 0 where
    pub is_put : map shown after ≡ put_row id (shown row) (map shown rows)
    pub is_there : slice_get (map shown after) place ≡ Some (shown row)
    pub counted : (p : S → Bool) → count_by p (map shown after) ≡ count_by p (map shown rows) + cond (p (shown row)) 1 0

  -- where a search for its id ended
  pub was-put : (rows after : List R) (place found : ℕ) (row : R) (n : ℕ) (r : Result ℕ ℕ) → AreRising id (map shown rows) → row_of id (id (shown row)) (map shown rows) ≡ None → n ≡ id (shown row)
      → IfOk r (IsPlaceOf id (map shown rows) n) → IfErr r (IsGapFor id (map shown rows) n) → (r ≡ Ok found) ⊎ (r ≡ Err found) → place ≡ found → after ≡ insert rows place row → WasPut rows after place row
  was-put rows after place found row n r rising none own at gap is same put =
      let there : IsGapFor id (map shown rows) (id (shown row)) place =
      subst (λ (k : ℕ). IsGapFor id (map shown rows) (id (shown row)) k) (sym same)
      (subst (λ (m : ℕ). IsGapFor id (map shown rows) m found) own
      (gap-searched id (map shown rows) n found r rising (subst (λ (m : ℕ). row_of id m (map shown rows) ≡ None) (sym own) none) at gap is)) in
      let inserted : map shown after ≡ insert (map shown rows) place (shown row) = ap (map shown) put ∙ shown-insert rows place row in
      record {
        is_put = inserted ∙ sym (put-insert id (map shown rows) (id (shown row)) place (shown row) there refl);
        is_there = ap (λ (l : List S). slice_get l place) inserted ∙ insert-got id (map shown rows) place (shown row) there.within;
        counted = λ p. ap (count_by p) inserted ∙ sum_by-insert (λ (s : S). cond (p s) 1 0) (map shown rows) place (shown row);
      }
