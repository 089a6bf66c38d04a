-- Where in a list something stands.
use Rattle.std.specs.Prelude.{◌≡◌, ℕ, zero, suc, Bool, true, false, List, [], ◌∷◌, None, find}

-- at most one of the list passes
abbrev pub AtMostOne : {X : Type 0} → (X → Bool) → List X → Type 0
AtMostOne p [] = Unit {0}
AtMostOne p (x ∷ xs) = (p x ≡ true → find p xs ≡ None) × AtMostOne p xs

-- the value stands at this place of the list
abbrev pub IsAt : {X : Type 0} → List X → ℕ → X → Type 0
IsAt [] place x = ⊥
IsAt (y ∷ ys) zero x = y ≡ x
IsAt (y ∷ ys) (suc place) x = IsAt ys place x

-- the value is the first of the list that passes, and stands at this place
abbrev pub FirstAt : {X : Type 0} → (X → Bool) → List X → ℕ → X → Type 0
FirstAt p [] place x = ⊥
FirstAt p (y ∷ ys) zero x = (p y ≡ true) × (y ≡ x)
FirstAt p (y ∷ ys) (suc place) x = (p y ≡ false) × FirstAt p ys place x
