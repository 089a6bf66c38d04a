-- What is taken of a list up to its end is the list.
use Rattle.std.proofs.Common.{◌≡◌, ◌≤◌, ℕ, zero, suc, List, [], ◌∷◌, length, take, refl, ap, arith}

pub take-whole : {X : Type 0} (xs : List X) (i : ℕ) → length xs ≤ i → take i xs ≡ xs
take-whole [] zero over = refl
take-whole [] (suc i) over = refl
take-whole (x ∷ xs) zero over = absurd (omega (arith, over))
take-whole (x ∷ xs) (suc i) over = ap (λ l. x ∷ l) (take-whole xs i (omega (arith, over)))
