-- What holds of each element of a list, by recursion on the list. (The kit's own `All` says it by places.)
use Rattle.std.proofs.Common.{ℕ, zero, suc, ◌<◌, List, [], ◌∷◌, ◌++◌, Bool, true, false, cond, length, get_or, map, set, filter, subst, arith}
use Rattle.std.specs.List.{AllByRecursion}
use Rattle.csi_types.specs.Public.Places.{IsAt}

-- what holds of each element holds of the one at a place
pub each-at : {X : Type 0} (P : X → Type 0) (xs : List X) (i : ℕ) (x : X) → AllByRecursion P xs → IsAt xs i x → P x
each-at P [] i x all at = absurd at
each-at P (y ∷ ys) zero x all at = subst P at all.0
each-at P (y ∷ ys) (suc i) x all at = each-at P ys i x all.1 at

-- the same, of what is read at a place within the list
pub each-place : {X : Type 0} (P : X → Type 0) (xs : List X) (k : ℕ) (d : X) → AllByRecursion P xs → k < length xs → P (get_or xs k d)
each-place P [] k d all inside = absurd (omega arith)
each-place P (x ∷ xs) zero d all inside = all.0
each-place P (x ∷ xs) (suc k) d all inside = each-place P xs k d all.1 (omega arith)

-- what holds of what stands at each place holds of each element
pub each-by_places : {X : Type 0} (P : X → Type 0) (xs : List X) (d : X) → ((k : ℕ) → k < length xs → P (get_or xs k d)) → AllByRecursion P xs
each-by_places P [] d f = tt
each-by_places P (x ∷ xs) d f = (f 0 (omega arith), each-by_places P xs d (λ k inside. f (suc k) (omega arith)))

-- what holds of each element of two lists holds of each element of the list that has both
pub each-append : {X : Type 0} (P : X → Type 0) (xs ys : List X) → AllByRecursion P xs → AllByRecursion P ys → AllByRecursion P (xs ++ ys)
each-append P [] ys first second = second
each-append P (x ∷ xs) ys first second = (first.0, each-append P xs ys first.1 second)

-- one more at the end
pub each-append_one : {X : Type 0} (P : X → Type 0) (xs : List X) (y : X) → AllByRecursion P xs → P y → AllByRecursion P (xs ++ y ∷ [])
each-append_one P xs y all own = each-append P xs (y ∷ []) all (own, tt)

-- what holds of each element holds of each once another, of which it holds, is put in place
pub each-set : {X : Type 0} (P : X → Type 0) (xs : List X) (i : ℕ) (y : X) → AllByRecursion P xs → P y → AllByRecursion P (set xs i y)
each-set P [] i y all own = all
each-set P (x ∷ xs) zero y all own = (own, all.1)
each-set P (x ∷ xs) (suc i) y all own = (all.0, each-set P xs i y all.1 own)

-- one fact of each from another
pub each-weaker : {X : Type 0} (P Q : X → Type 0) (xs : List X) → ((x : X) → P x → Q x) → AllByRecursion P xs → AllByRecursion Q xs
each-weaker P Q [] f all = tt
each-weaker P Q (x ∷ xs) f all = (f x all.0, each-weaker P Q xs f all.1)

-- of each of the changed ones
pub each-map : {X Y : Type 0} (P : X → Type 0) (Q : Y → Type 0) (f : X → Y) (xs : List X) → ((x : X) → P x → Q (f x)) → AllByRecursion P xs → AllByRecursion Q (map f xs)
each-map P Q f [] keeps all = tt
each-map P Q f (x ∷ xs) keeps all = (keeps x all.0, each-map P Q f xs keeps all.1)

-- of each of those that are kept
pub each-filter : {X : Type 0} (P : X → Type 0) (q : X → Bool) (xs : List X) → AllByRecursion P xs → AllByRecursion P (filter q xs)
each-filter P q [] all = tt
each-filter P q (x ∷ xs) all = by (q x) (each-filter P q xs all.1)
  where
    by : (b : Bool) → AllByRecursion P (filter q xs) → AllByRecursion P (cond b (x ∷ filter q xs) (filter q xs))
    by true rest = (all.0, rest)
    by false rest = rest
