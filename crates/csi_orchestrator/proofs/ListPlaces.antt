-- What stands at a place of a list, once another value was put at a place or at the end.
use Rattle.csi_orchestrator.proofs.Words.{◌≡◌, ◌<◌, ◌⊎◌, inl, inr, ℕ, zero, suc, List, [], ◌∷◌, ◌++◌, length, map, set}
use Rattle.csi_orchestrator.proofs.Words.{refl, ap, arith, Some, slice_get, IsAt}
use Rattle.csi_orchestrator.proofs.Lemmas.{none-some, same_Some}

-- what stands at a place is what is read there, and the place is within the list
pub at-of_get : {X : Type 0} (xs : List X) (i : ℕ) (x : X) → slice_get xs i ≡ Some x → IsAt xs i x
at-of_get [] i x h = none-some x h
at-of_get (y ∷ ys) zero x h = same_Some y x h
at-of_get (y ∷ ys) (suc i) x h = at-of_get ys i x h

-- what stands at a place is what is read there
pub get-of_at : {X : Type 0} (xs : List X) (i : ℕ) (x : X) → IsAt xs i x → slice_get xs i ≡ Some x
get-of_at [] i x h = absurd h
get-of_at (y ∷ ys) zero x h = ap Some h
get-of_at (y ∷ ys) (suc i) x h = get-of_at ys i x h

-- a place where something stands is within the list
pub at-within : {X : Type 0} (xs : List X) (i : ℕ) (x : X) → IsAt xs i x → i < length xs
at-within [] i x h = absurd h
at-within (y ∷ ys) zero x h = omega arith
at-within (y ∷ ys) (suc i) x h = let rest = at-within ys i x h in omega (arith, rest)

-- one was put in the place of another
pub at-set : {X : Type 0} (xs : List X) (i j : ℕ) (y z : X) → IsAt (set xs i y) j z → ((j ≡ i) × (y ≡ z)) ⊎ IsAt xs j z
at-set [] i j y z h = absurd h
at-set (x ∷ xs) zero zero y z h = inl (refl, h)
at-set (x ∷ xs) zero (suc j) y z h = inr h
at-set (x ∷ xs) (suc i) zero y z h = inr h
at-set (x ∷ xs) (suc i) (suc j) y z h = grind (arith, (at-set xs i j y z h))

-- what was put in a place stands there
pub at-set_same : {X : Type 0} (xs : List X) (i : ℕ) (x y : X) → IsAt xs i x → IsAt (set xs i y) i y
at-set_same [] i x y h = absurd h
at-set_same (z ∷ xs) zero x y h = refl
at-set_same (z ∷ xs) (suc i) x y h = at-set_same xs i x y h

-- what stands at another place stays there
pub at-set_other : {X : Type 0} (xs : List X) (i j : ℕ) (y z : X) → IsAt xs j z → (j ≡ i → ⊥) → IsAt (set xs i y) j z
at-set_other [] i j y z h differs = absurd h
at-set_other (x ∷ xs) zero zero y z h differs = absurd (differs refl)
at-set_other (x ∷ xs) zero (suc j) y z h differs = h
at-set_other (x ∷ xs) (suc i) zero y z h differs = h
at-set_other (x ∷ xs) (suc i) (suc j) y z h differs = at-set_other xs i j y z h (λ e. differs (ap suc e))

-- one was put at the end
pub at-push : {X : Type 0} (xs : List X) (j : ℕ) (y z : X) → IsAt (xs ++ y ∷ []) j z → ((j ≡ length xs) × (y ≡ z)) ⊎ IsAt xs j z
at-push [] zero y z h = inl (refl, h)
at-push [] (suc j) y z h = absurd h
at-push (x ∷ xs) zero y z h = inr h
at-push (x ∷ xs) (suc j) y z h = grind (arith, (at-push xs j y z h))

-- a list with the image of each value at its place
pub all-mapped : {X : Type 0} (f : X → X) (xs ys : List X) → length ys ≡ length xs → ((i : ℕ) (x : X) → IsAt xs i x → IsAt ys i (f x)) → ys ≡ map f xs
all-mapped f [] [] long each = refl
all-mapped f [] (y ∷ ys) long each = absurd (omega (arith, long))
all-mapped f (x ∷ xs) [] long each = absurd (each 0 x refl)
all-mapped f (x ∷ xs) (y ∷ ys) long each =
    let own : y ≡ f x = each 0 x refl in
    let rest = all-mapped f xs ys (omega (arith, long)) (λ i z at. each (suc i) z at) in
    λ i. own i ∷ rest i
