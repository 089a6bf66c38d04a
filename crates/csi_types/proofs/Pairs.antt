-- What holds of each element of a list and each one after it.
use Rattle.std.proofs.Common.{◌≡◌, ℕ, suc, ◌<◌, List, [], ◌∷◌, ◌++◌, Bool, true, false, cond, map, filter, length, get_or, refl, sym, subst, inl, inr, arith}
use Rattle.std.specs.Prelude.{◌==◌}
use Rattle.std.specs.List.{AllByRecursion, flat_map}
use Rattle.std.proofs.lemmas.Bool.{false≢true, eq-eqb}
use Rattle.csi_types.specs.Model.Members.{IsAmong, EachTwo}
use Rattle.csi_types.proofs.Each.{each-append, each-by_places, each-filter}
use Rattle.csi_types.proofs.Members.{each_of, all_of, among-flat, among-map, in_filter}

-- of two lists, one after the other
pub two-joined : {X : Type 0} (R : X → X → Type 0) (xs ys : List X) → EachTwo R xs → EachTwo R ys → ((x y : X) → IsAmong x xs → IsAmong y ys → R x y) → EachTwo R (xs ++ ys)
two-joined R [] ys first second across = second
two-joined R (x ∷ xs) ys first second across = (
  each-append (R x) xs ys first.0 (all_of (R x) ys (λ y there. across x y (inl refl) there)),
  two-joined R xs ys first.1 second (λ a b among there. across a b (inr among) there),
)

-- of a longer list
pub two-append : {X : Type 0} (R : X → X → Type 0) (xs : List X) (y : X) → EachTwo R xs → ((x : X) → IsAmong x xs → R x y) → EachTwo R (xs ++ y ∷ [])
two-append R xs y two f = two-joined R xs (y ∷ []) two (tt, tt) across
  where
    across : (x z : _) → IsAmong x xs → IsAmong z (y ∷ []) → R x z
    across x z among (inl e) = subst (R x) (sym e) (f x among)
    across x z among (inr none) = absurd none

-- of those that are kept
pub two-filter : {X : Type 0} (R : X → X → Type 0) (p : X → Bool) (xs : List X) → EachTwo R xs → EachTwo R (filter p xs)
two-filter R p [] two = tt
two-filter R p (x ∷ xs) two = by (p x) (two-filter R p xs two.1)
  where
    by : (b : Bool) → EachTwo R (filter p xs) → EachTwo R (cond b (x ∷ filter p xs) (filter p xs))
    by true rest = (each-filter (R x) p xs two.0, rest)
    by false rest = rest

-- of what a list is mapped to
pub two-map : {X Y : Type 0} (R : Y → Y → Type 0) (f : X → Y) (xs : List X) → EachTwo (λ a b. R (f a) (f b)) xs → EachTwo R (map f xs)
two-map R f [] two = tt
two-map R f (x ∷ xs) two = (
  all_of (R (f x)) (map f xs) (λ y among.
      let found = among-map f xs y among in
      subst (R (f x)) (sym found.2) (each_of (λ b. R (f x) (f b)) xs found.0 two.0 found.1)),
  two-map R f xs two.1,
)

-- of a list for each
pub two-flat : {X Y : Type 0} (R : Y → Y → Type 0) (f : X → List Y) (xs : List X) → AllByRecursion (λ x. EachTwo R (f x)) xs
    → EachTwo (λ a b. (x y : Y) → IsAmong x (f a) → IsAmong y (f b) → R x y) xs → EachTwo R (flat_map f xs)
two-flat R f [] each across = tt
two-flat R f (x ∷ xs) each across =
    two-joined R (f x) (flat_map f xs) each.0 (two-flat R f xs each.1 across.1) (λ a b here there.
    let found = among-flat f xs b there in
    each_of (λ z. (a b : _) → IsAmong a (f x) → IsAmong b (f z) → R a b) xs found.0 across.0 found.1 a b here found.2)

-- one fact of any two from another
pub two-more : {X : Type 0} (R S : X → X → Type 0) (xs : List X) → ((a b : X) → R a b → S a b) → EachTwo R xs → EachTwo S xs
two-more R S [] f two = tt
two-more R S (x ∷ xs) f two = (all_of (S x) xs (λ y among. f x y (each_of (R x) xs y two.0 among)), two-more R S xs f two.1)

-- what holds of what stands at any two places, the first one first, holds of each element and each after it
pub two-by_places : {X : Type 0} (R : X → X → Type 0) (xs : List X) → ((i j : ℕ) (d : X) → i < j → j < length xs → R (get_or xs i d) (get_or xs j d)) → EachTwo R xs
two-by_places R [] f = tt
two-by_places R (x ∷ xs) f =
    (each-by_places (R x) xs x (λ j inside. f 0 (suc j) x (omega arith) (omega arith)), two-by_places R xs (λ i j d before inside. f (suc i) (suc j) d (omega arith) (omega arith)))

-- where the first is kept, what holds of each two of the list holds of it and each one after it
two_first : {X : Type 0} (R : X → X → Type 0) (b : Bool) (x : X) (rest : List X) → b ≡ true → EachTwo R (cond b (x ∷ rest) rest) → AllByRecursion (R x) rest
two_first R true x rest e two = two.0
two_first R false x rest e two = absurd (false≢true e)

-- what holds of each two of a list, with its first kept or not, holds of each two of the rest
two_rest : {X : Type 0} (R : X → X → Type 0) (b : Bool) (x : X) (rest : List X) → EachTwo R (cond b (x ∷ rest) rest) → EachTwo R rest
two_rest R true x rest two = two.1
two_rest R false x rest two = two

-- any two of one key, where it holds of those of each key
pub two-by_key : {X : Type 0} (R : X → X → Type 0) (key : X → ℕ) (xs : List X) → ((id : ℕ) → EachTwo R (filter (λ x. key x == id) xs)) → EachTwo (λ a b. key a ≡ key b → R a b) xs
two-by_key R key [] each = tt
two-by_key R key (x ∷ xs) each = (
  all_of (λ y. key x ≡ key y → R x y) xs (λ y among same.
      each_of (R x) (filter (λ z. key z == key x) xs) y
      (two_first R (key x == key x) x (filter (λ z. key z == key x) xs) (eq-eqb (key x) (key x) refl) (each (key x)))
      (in_filter (λ z. key z == key x) xs y among (eq-eqb (key y) (key x) (sym same)))),
  two-by_key R key xs (λ id. two_rest R (key x == id) x (filter (λ z. key z == id) xs) (each id)),
)
