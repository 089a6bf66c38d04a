-- Tests of entries, as they are kept and as they are shown, one entry after another.
use Rattle.csi_orchestrator.proofs.Words.{◌≡◌, ◌<◌, ◌≤◌, ◌+◌, ℕ, zero, suc, List, [], ◌∷◌, Bool, true, false, length}
use Rattle.csi_orchestrator.proofs.Words.{get_or, map, take, refl, sym, ◌∙◌, ap, arith, Some, None, count_by, position}
use Rattle.csi_orchestrator.proofs.Words.{◌||◌, list_any, FirstAt}
use Rattle.csi_orchestrator.proofs.Lemmas.{count_by_more_yes, count_by_more_no, position-first, position-none}

-- this one passes
pub one-here : {R X : Type 0} (view : R → X) (p : X → Bool) (rs : List R) (i : ℕ) (r : R) → i < length rs → r ≡ get_or rs i r → p (view r) ≡ true → list_any p (map view rs) ≡ true
one-here view p [] i r inside is passes = absurd (omega arith)
one-here view p (x ∷ rs) zero r inside is passes = rw (← is) (ap (λ b. b || list_any p (map view rs)) passes)
one-here view p (x ∷ rs) (suc i) r inside is passes = grind (arith, (one-here view p rs i r (omega arith) is passes))

-- one more is counted, or isn't
pub counted-more : {X : Type 0} (p : X → Bool) (xs : List X) (i : ℕ) (x : X) (n m : ℕ) → i < length xs → x ≡ get_or xs i x → n ≡ count_by p (take i xs) → p x ≡ true → m ≡ n + 1 → m ≡ count_by p (take (i + 1) xs)
counted-more p xs i x n m inside is so_far passes more = more ∙ ap (λ k. k + 1) so_far ∙ sym (count_by_more_yes p xs i x inside (ap p (sym is) ∙ passes))

-- one that fails the test isn't counted
pub counted-same : {X : Type 0} (p : X → Bool) (xs : List X) (i : ℕ) (x : X) (n m : ℕ) → i < length xs → x ≡ get_or xs i x → n ≡ count_by p (take i xs) → p x ≡ false → m ≡ n → m ≡ count_by p (take (i + 1) xs)
counted-same p xs i x n m inside is so_far fails same = same ∙ so_far ∙ sym (count_by_more_no p xs i x inside (ap p (sym is) ∙ fails))

-- where one of two tests isn't passed or the other, neither is
neither : (a b : Bool) → (a || b) ≡ false → (a ≡ false) × (b ≡ false)
neither true b e = cc
neither false b e = (refl, e)

-- one that passes, where none before it does, is the first
first-here : {X : Type 0} (p : X → Bool) (xs : List X) (i : ℕ) (x : X) → i < length xs → x ≡ get_or xs i x → list_any p (take i xs) ≡ false → p x ≡ true → FirstAt p xs i x
first-here p [] i x inside is none passes = absurd (omega arith)
first-here p (y ∷ ys) zero x inside is none passes = (ap p (sym is) ∙ passes, sym is)
first-here p (y ∷ ys) (suc i) x inside is none passes =
    let own = neither (p y) (list_any p (take i ys)) none in
    (own.0, first-here p ys i x (omega arith) is own.1 passes)

-- so it has its place
pub placed-here : {X : Type 0} (p : X → Bool) (xs : List X) (i : ℕ) (x : X) → i < length xs → x ≡ get_or xs i x → list_any p (take i xs) ≡ false → p x ≡ true → Some i ≡ position p xs
placed-here p xs i x inside is none passes = position-first p xs i x (first-here p xs i x inside is none passes)

-- where none of the first ones passes, and there are no others, none does
none-there : {X : Type 0} (p : X → Bool) (xs : List X) (i : ℕ) → length xs ≤ i → list_any p (take i xs) ≡ false → (k : ℕ) (d : X) → k < length xs → p (get_or xs k d) ≡ false
none-there p [] i over none k d inside = absurd (omega arith)
none-there p (x ∷ xs) zero over none k d inside = absurd (omega arith)
none-there p (x ∷ xs) (suc i) over none zero d inside = (neither (p x) (list_any p (take i xs)) none).0
none-there p (x ∷ xs) (suc i) over none (suc k) d inside = none-there p xs i (omega arith) (neither (p x) (list_any p (take i xs)) none).1 k d (omega arith)

-- so there is no place
pub placed-nowhere : {X : Type 0} (p : X → Bool) (xs : List X) (i : ℕ) → length xs ≤ i → list_any p (take i xs) ≡ false → None ≡ position p xs
placed-nowhere p xs i over none = position-none p xs (none-there p xs i over none)
