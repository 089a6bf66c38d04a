-- Searches after an entry was changed or put in.
use Rattle.csi_orchestrator.proofs.Words.{◌≡◌, ℕ, List, [], ◌∷◌, Bool, true, false, cond, refl, ap, Option, Some, None}
use Rattle.csi_orchestrator.proofs.Words.{option_map, find, same_text, change_by, put_by, arith}
use Rattle.csi_orchestrator.proofs.Lemmas.{same_text-tells}

-- texts that are the same are compared alike
same_text-follows : (a b other : List ℕ) → same_text a b ≡ true → same_text a other ≡ same_text b other
same_text-follows a b other e = ap (λ t. same_text t other) ((same_text-tells a b).0 e)

-- of none there is none, changed or not
none-either : {X : Type 0} (b : Bool) (change : X → X) → None ≡ cond b (option_map change None) None
none-either true change = refl
none-either false change = refl

-- a search after a change, with one more entry in front
change-step : {X : Type 0} (key : X → List ℕ) (text other : List ℕ) (change : X → X) (x : X) (xs later : List X) (found : Option X) → ((x : X) → key (change x) ≡ key x)
    → find (λ x. same_text (key x) other) xs ≡ found → find (λ x. same_text (key x) other) later ≡ cond (same_text text other) (option_map change found) found
    → (b : Bool) → same_text (key x) text ≡ b → (c : Bool) → same_text text other ≡ c
    → find (λ x. same_text (key x) other) (cond b (change x ∷ xs) (x ∷ later)) ≡ cond c (option_map change (cond (same_text (key x) other) (Some x) found)) (cond (same_text (key x) other) (Some x) found)
change-step key text other change x xs later found keeps is rest b e c f = grind (arith, same_text-follows, same_text-tells)

-- a search after a change finds the changed entry, if it is of that text, and else what it found before
pub find-change : {X : Type 0} (key : X → List ℕ) (text : List ℕ) (change : X → X) (xs : List X) (other : List ℕ) → ((x : X) → key (change x) ≡ key x)
    → find (λ x. same_text (key x) other) (change_by key text change xs)
    ≡ cond (same_text text other) (option_map change (find (λ x. same_text (key x) other) xs)) (find (λ x. same_text (key x) other) xs)
find-change key text change [] other keeps = none-either (same_text text other) change
find-change key text change (x ∷ xs) other keeps =
    change-step key text other change x xs (change_by key text change xs) (find (λ x. same_text (key x) other) xs) keeps refl (find-change key text change xs other keeps) (same_text (key x) text) refl (same_text text other) refl

-- a search after an entry was put in, with one more in front
put-step : {X : Type 0} (key : X → List ℕ) (entry : X) (other : List ℕ) (x : X) (xs later : List X) (found : Option X)
    → find (λ x. same_text (key x) other) xs ≡ found → find (λ x. same_text (key x) other) later ≡ cond (same_text (key entry) other) (Some entry) found
    → (b : Bool) → same_text (key x) (key entry) ≡ b → (c : Bool) → same_text (key entry) other ≡ c
    → find (λ x. same_text (key x) other) (cond b (entry ∷ xs) (x ∷ later)) ≡ cond c (Some entry) (cond (same_text (key x) other) (Some x) found)
put-step key entry other x xs later found is rest b e c f = grind (arith, same_text-follows, same_text-tells)

-- a search after an entry was put in finds that one, if it is of that text, and else what it found before
pub find-put : {X : Type 0} (key : X → List ℕ) (entry : X) (xs : List X) (other : List ℕ)
    → find (λ x. same_text (key x) other) (put_by key entry xs) ≡ cond (same_text (key entry) other) (Some entry) (find (λ x. same_text (key x) other) xs)
find-put key entry [] other = refl
find-put key entry (x ∷ xs) other =
    put-step key entry other x xs (put_by key entry xs) (find (λ x. same_text (key x) other) xs) refl (find-put key entry xs other) (same_text (key x) (key entry)) refl (same_text (key entry) other) refl
