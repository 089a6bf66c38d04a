-- A list has one sorted order, as far as the places of its elements tell; and two lists that rise and have the same members are one.
use Rattle.std.proofs.Common.{◌≡◌, ℕ, ◌+◌, List, [], ◌∷◌, map, Bool, true, false, cond, refl, sym, ap, ap₂, ◌∙◌, subst, inl, inr, arith, true≢false}
use Rattle.std.specs.List.{AllByRecursion, sum_by}
use Rattle.std.specs.List.Sorted.{IsPermutation, IsSortedBy}
use Rattle.std.specs.Ordering.{is_lt, ordering_reverse}
use Rattle.std.specs.Cmp.{IsTotalOrder}
use Rattle.std.proofs.lemmas.Cmp.{tied_itself}
use Rattle.std.proofs.lemmas.List.Sums.{sum_by-cons}
use Rattle.std.proofs.lemmas.List.Sorted.{ranks_by, sorted_far, sum_by-IsPermutation}
use Rattle.std.specs.declared.cmp.Ordering.{Ordering}
use Rattle.std.specs.declared.cmp.Ordering.TheVariants.{Less, Equal, Greater}
use Rattle.csi_types.specs.Model.Members.{IsAmong, EachTwo}
use Rattle.csi_types.proofs.Members.{each_of}
use Rattle.csi_types.proofs.Pairs.{two-by_places}

module _ {X K : Type 0} (R : K → K → Ordering) (total : IsTotalOrder R) (apart : (a b : K) → R a b ≡ Equal → a ≡ b) (place : X → K) where
  -- no later element has a place before an earlier one's
  abbrev Rises : List X → Type 0
  Rises xs = EachTwo (λ a b. is_lt (R (place b) (place a)) ≡ false) xs

  -- a list that is sorted by place rises
  rises : (xs : List X) → IsSortedBy (λ a b. is_lt (R (place a) (place b))) xs → Rises xs
  rises xs sorted =
      two-by_places (λ a b. is_lt (R (place b) (place a)) ≡ false) xs (λ i j d before inside. sorted_far (λ a b. is_lt (R (place a) (place b))) (ranks_by total place) xs sorted i j d (omega arith) inside)

  -- whatever is counted of places, both lists have as much of it
  abbrev AreAlike : List X → List X → Type 0
  AreAlike xs ys = (f : K → ℕ) → sum_by (λ x. f (place x)) xs ≡ sum_by (λ x. f (place x)) ys

  -- where no element is before a place, the count of those before it is 0
  none-below : (k : K) (xs : List X) → AllByRecursion (λ x. is_lt (R (place x) k) ≡ false) xs → sum_by (λ x. cond (is_lt (R (place x) k)) 1 0) xs ≡ 0
  none-below k [] all = refl
  none-below k (x ∷ xs) all = sum_by-cons (λ z. cond (is_lt (R (place z) k)) 1 0) x xs ∙ ap₂ ◌+◌ (ap (λ b. cond b 1 0) all.0) (none-below k xs all.1)

  -- the first of one list isn't below the first of the other, below which nothing is
  not-below : (x y : X) (xs ys : List X) → Rises (y ∷ ys) → AreAlike (x ∷ xs) (y ∷ ys) → is_lt (R (place x) (place y)) ≡ false
  not-below x y xs ys up alike = by (is_lt (R (place x) (place y))) refl
    where
      by : (b : Bool) → is_lt (R (place x) (place y)) ≡ b → b ≡ false
      by false e = refl
      by true e =
          let none = none-below (place y) (y ∷ ys) (ap is_lt (tied_itself total (place y)), up.0) in
          let some = sum_by-cons (λ z. cond (is_lt (R (place z) (place y))) 1 0) x xs ∙ ap (λ b. cond b 1 0 + sum_by (λ z. cond (is_lt (R (place z) (place y))) 1 0) xs) e in
          absurd (omega (arith, none, some, alike (λ k. cond (is_lt (R k (place y))) 1 0)))

  -- two places neither of which is before the other tie
  level : (a b : K) → is_lt (R a b) ≡ false → is_lt (R b a) ≡ false → R a b ≡ Equal
  level a b p q = by (R a b) refl p (sym (ap is_lt (total.antisymm b a)) ∙ q)
    where
      by : (o : Ordering) → R a b ≡ o → is_lt o ≡ false → is_lt (ordering_reverse o) ≡ false → R a b ≡ Equal
      by Less e p q = absurd (true≢false p)
      by Equal e p q = e
      by Greater e p q = absurd (true≢false q)

  -- lists that are alike, and begin at one place, are alike without their first elements
  rest-alike : (x y : X) (xs ys : List X) → place x ≡ place y → AreAlike (x ∷ xs) (y ∷ ys) → AreAlike xs ys
  rest-alike x y xs ys here alike f =
      let left = sum_by-cons (λ z. f (place z)) x xs in
      let right = sum_by-cons (λ z. f (place z)) y ys in
      let first = ap f here in
      omega (arith, left, right, first, alike f)

  -- lists that rise and are alike have the same entries, where an entry is told by its place
  same-entries : {E : Type 0} (entry : X → E) → ((a b : X) → place a ≡ place b → entry a ≡ entry b) → (xs ys : List X) → Rises xs → Rises ys → AreAlike xs ys
      → map entry xs ≡ map entry ys
  same-entries entry tells [] [] up also alike = refl
  same-entries entry tells [] (y ∷ ys) up also alike = absurd (omega (arith, alike (λ k. 1), sum_by-cons (λ (z : X). 1) y ys))
  same-entries entry tells (x ∷ xs) [] up also alike = absurd (omega (arith, alike (λ k. 1), sum_by-cons (λ (z : X). 1) x xs))
  same-entries entry tells (x ∷ xs) (y ∷ ys) up also alike =
      let back : AreAlike (y ∷ ys) (x ∷ xs) = λ f. sym (alike f) in
      let here = apart (place x) (place y) (level (place x) (place y) (not-below x y xs ys also alike) (not-below y x ys xs up back)) in
      ap₂ ◌∷◌ (tells x y here) (same-entries entry tells xs ys up.1 also.1 (rest-alike x y xs ys here alike))

  -- the entries of a list have one sorted order, where an entry is told by its place
  pub one-order : {E : Type 0} (entry : X → E) → ((a b : X) → place a ≡ place b → entry a ≡ entry b) → (items xs ys : List X)
      → IsPermutation items xs → IsSortedBy (λ a b. is_lt (R (place a) (place b))) xs → IsPermutation items ys → IsSortedBy (λ a b. is_lt (R (place a) (place b))) ys
      → map entry xs ≡ map entry ys
  one-order entry tells items xs ys moved sorted also_moved also_sorted =
      same-entries entry tells xs ys (rises xs sorted) (rises ys also_sorted)
      (λ f. sum_by-IsPermutation (λ x. f (place x)) items xs moved ∙ sym (sum_by-IsPermutation (λ x. f (place x)) items ys also_moved))

-- ---- members

module _ {X : Type 0} (L : X → X → Type 0) (itself : (x : X) → L x x → ⊥) (back : (x y : X) → L x y → L y x → ⊥) where
  -- two lists in order that have the same members are one
  pub same-members : (xs ys : List X) → EachTwo L xs → EachTwo L ys → ((x : X) → IsAmong x xs → IsAmong x ys) → ((x : X) → IsAmong x ys → IsAmong x xs) → xs ≡ ys
  same-members [] [] up also there here = refl
  same-members [] (y ∷ ys) up also there here = absurd (here y (inl refl))
  same-members (x ∷ xs) [] up also there here = absurd (there x (inl refl))
  same-members (x ∷ xs) (y ∷ ys) up also there here =
      ap₂ ◌∷◌ first (same-members xs ys up.1 also.1 (λ z among. later z among (there z (inr among))) (λ z among. earlier z among (here z (inr among))))
    where
      by : IsAmong x (y ∷ ys) → IsAmong y (x ∷ xs) → x ≡ y
      by (inl e) among = e
      by (inr among) (inl e) = sym e
      by (inr among) (inr also_among) = absurd (back x y (each_of (L x) xs y up.0 also_among) (each_of (L y) ys x also.0 among))

      first : x ≡ y
      first = by (there x (inl refl)) (here y (inl refl))

      later : (z : X) → IsAmong z xs → IsAmong z (y ∷ ys) → IsAmong z ys
      later z among (inr is) = is
      later z among (inl e) = absurd (itself x (subst (L x) (e ∙ sym first) (each_of (L x) xs z up.0 among)))

      earlier : (z : X) → IsAmong z ys → IsAmong z (x ∷ xs) → IsAmong z xs
      earlier z among (inr is) = is
      earlier z among (inl e) = absurd (itself y (subst (L y) (e ∙ first) (each_of (L y) ys z also.0 among)))
