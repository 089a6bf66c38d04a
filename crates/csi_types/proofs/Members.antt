-- What is among a list, after an element was added, changed or taken out.
use Rattle.std.proofs.Common.{◌≡◌, ◌⊎◌, ℕ, suc, List, [], ◌∷◌, ◌++◌, Bool, true, false, cond, map, length, refl, sym, ap, ◌∙◌, subst, inl, inr, arith}
use Rattle.std.specs.Prelude.{Option, Some, None, find, filter, filter_map, nat_lt, ◌==◌}
use Rattle.std.specs.List.{All, AllByRecursion, flat_map, cons_option}
use Rattle.std.specs.List.Sorted.{IsPermutation}
use Rattle.std.proofs.lemmas.Bool.{false≢true, eq-eqb}
use Rattle.std.proofs.lemmas.Bool.Decides.{nat_tests}
use Rattle.std.proofs.lemmas.List.Sorted.{All-permutation, IsPermutation-sym}
use Rattle.std.proofs.lemmas.Option.{none-some, same_Some}
use Rattle.csi_types.specs.Model.Members.{IsAmong}
use Rattle.csi_types.proofs.Each.{each-place, each-by_places}

-- ---- each, and each one

-- what holds of each element holds of one that is among the list
pub each_of : {X : Type 0} (P : X → Type 0) (xs : List X) (x : X) → AllByRecursion P xs → IsAmong x xs → P x
each_of P [] x all among = absurd among
each_of P (y ∷ ys) x all (inl e) = subst P (sym e) all.0
each_of P (y ∷ ys) x all (inr among) = each_of P ys x all.1 among

-- what holds of all that is among the list holds of each element
pub all_of : {X : Type 0} (P : X → Type 0) (xs : List X) → ((x : X) → IsAmong x xs → P x) → AllByRecursion P xs
all_of P [] f = tt
all_of P (y ∷ ys) f = (f y (inl refl), all_of P ys (λ x among. f x (inr among)))

-- the same by the kit's `All`
pub one-of_all : {X : Type 0} (P : X → Type 0) (xs : List X) (x : X) → All P xs → IsAmong x xs → P x
one-of_all P [] x all among = absurd among
one-of_all P (y ∷ ys) x all (inl e) = subst P (sym e) (all 0 x (omega arith))
one-of_all P (y ∷ ys) x all (inr among) = one-of_all P ys x (λ k d lt. all (suc k) d (omega arith)) among

-- ---- lists that are empty, and others

-- a list that nothing is among is empty
pub empty-where : {X : Type 0} (xs : List X) → ((x : X) → IsAmong x xs → ⊥) → xs ≡ []
empty-where [] none = refl
empty-where (x ∷ xs) none = absurd (none x (inl refl))

-- nothing is among an empty list
pub among-empty : {X : Type 0} (x : X) (xs : List X) → xs ≡ [] → IsAmong x xs → ⊥
among-empty x xs e among = subst (IsAmong x) e among

-- of a list with a length above 0 some element is there
pub has-some : {X : Type 0} (xs : List X) → nat_lt 0 (length xs) ≡ true → (x : X) × IsAmong x xs
has-some [] e = absurd (false≢true e)
has-some (x ∷ xs) e = (x, inl refl)

-- a list that something is among has a length above 0
pub some-has : {X : Type 0} (xs : List X) (x : X) → IsAmong x xs → nat_lt 0 (length xs) ≡ true
some-has [] x among = absurd among
some-has (y ∷ ys) x among = grind (arith, nat_tests)

-- the one of a list of one
pub among-one : {X : Type 0} (P : X → Type 0) (x y : X) → IsAmong x (y ∷ []) → P y → P x
among-one P x y (inl e) own = subst P (sym e) own
among-one P x y (inr among) own = absurd among

-- ---- two lists, one after the other

-- what is among one of two lists is among the two, one after the other; and what is among the two is among one of them
pub among-append : {X : Type 0} (xs ys : List X) (x : X) → IsAmong x xs → IsAmong x (xs ++ ys)
among-append [] ys x among = absurd among
among-append (y ∷ rest) ys x (inl e) = inl e
among-append (y ∷ rest) ys x (inr among) = inr (among-append rest ys x among)

-- what is among the second of two lists is among the two
pub among-right : {X : Type 0} (xs ys : List X) (x : X) → IsAmong x ys → IsAmong x (xs ++ ys)
among-right [] ys x among = among
among-right (y ∷ rest) ys x among = inr (among-right rest ys x among)

-- what is among the two is among one of them
pub among-joined : {X : Type 0} (xs ys : List X) (x : X) → IsAmong x (xs ++ ys) → IsAmong x xs ⊎ IsAmong x ys
among-joined [] ys x among = inr among
among-joined (y ∷ rest) ys x (inl is) = inl (inl is)
among-joined (y ∷ rest) ys x (inr there) = later (among-joined rest ys x there)
  where
    later : IsAmong x rest ⊎ IsAmong x ys → IsAmong x (y ∷ rest) ⊎ IsAmong x ys
    later (inl among) = inl (inr among)
    later (inr among) = inr among

-- one that was added at the end is among the list
pub among-last : {X : Type 0} (xs : List X) (x : X) → IsAmong x (xs ++ x ∷ [])
among-last xs x = among-right xs (x ∷ []) x (inl refl)

-- one of the list, or the one that was added
pub among-either : {X : Type 0} (xs : List X) (y x : X) → IsAmong x (xs ++ y ∷ []) → IsAmong x xs ⊎ (x ≡ y)
among-either xs y x among = told (among-joined xs (y ∷ []) x among)
  where
    told : IsAmong x xs ⊎ IsAmong x (y ∷ []) → IsAmong x xs ⊎ (x ≡ y)
    told (inl there) = inl there
    told (inr (inl e)) = inr e
    told (inr (inr none)) = absurd none

-- ---- a list for each

-- what is among the lists that each element gives is among the one of some element; and back
pub among-flat : {X Y : Type 0} (f : X → List Y) (xs : List X) (y : Y) → IsAmong y (flat_map f xs) → (x : X) × IsAmong x xs × IsAmong y (f x)
among-flat f [] y among = absurd among
among-flat f (x ∷ xs) y among = either (λ there. among-flat f xs y there) (among-joined (f x) (flat_map f xs) y among)
  where
    either : (IsAmong y (flat_map f xs) → (z : _) × IsAmong z xs × IsAmong y (f z)) → IsAmong y (f x) ⊎ IsAmong y (flat_map f xs) → (z : _) × IsAmong z (x ∷ xs) × IsAmong y (f z)
    either later (inl here) = (x, inl refl, here)
    either later (inr there) = let found = later there in (found.0, inr found.1, found.2)

-- what is among an element's own list is among the lists of all elements
pub in-flat : {X Y : Type 0} (f : X → List Y) (xs : List X) (x : X) (y : Y) → IsAmong x xs → IsAmong y (f x) → IsAmong y (flat_map f xs)
in-flat f [] x y among here = absurd among
in-flat f (z ∷ zs) x y (inl is) here = among-append (f z) (flat_map f zs) y (subst (λ w. IsAmong y (f w)) is here)
in-flat f (z ∷ zs) x y (inr there) here = among-right (f z) (flat_map f zs) y (in-flat f zs x y there here)

-- ---- filters

-- what was kept was there, and passes
pub among-kept : {X : Type 0} (p : X → Bool) (xs : List X) (x : X) → IsAmong x (filter p xs) → IsAmong x xs × (p x ≡ true)
among-kept p [] x among = absurd among
among-kept p (y ∷ ys) x among = by (p y) refl among (among-kept p ys x)
  where
    by : (b : Bool) → p y ≡ b → IsAmong x (cond b (y ∷ filter p ys) (filter p ys)) → (IsAmong x (filter p ys) → IsAmong x ys × (p x ≡ true)) → ((x ≡ y) ⊎ IsAmong x ys) × (p x ≡ true)
    by true e (inl is) rest = (inl is, ap p is ∙ e)
    by true e (inr there) rest = let found = rest there in (inr found.0, found.1)
    by false e there rest = let found = rest there in (inr found.0, found.1)

-- what a filter kept was there, and it passes: each by itself
pub among-filter : {X : Type 0} (p : X → Bool) (xs : List X) (x : X) → IsAmong x (filter p xs) → IsAmong x xs
among-filter p xs x among = (among-kept p xs x among).0

-- what a filter kept passes
pub passes-filter : {X : Type 0} (p : X → Bool) (xs : List X) (x : X) → IsAmong x (filter p xs) → p x ≡ true
passes-filter p xs x among = (among-kept p xs x among).1

-- what was there and passes is kept
pub in_filter : {X : Type 0} (p : X → Bool) (xs : List X) (x : X) → IsAmong x xs → p x ≡ true → IsAmong x (filter p xs)
in_filter p [] x among passes = absurd among
in_filter p (y ∷ ys) x among passes = by (p y) refl among (λ there. in_filter p ys x there passes)
  where
    by : (b : Bool) → p y ≡ b → (x ≡ y) ⊎ IsAmong x ys → (IsAmong x ys → IsAmong x (filter p ys)) → IsAmong x (cond b (y ∷ filter p ys) (filter p ys))
    by true e (inl is) rest = inl is
    by true e (inr there) rest = inr (rest there)
    by false e (inl is) rest = absurd (false≢true (sym e ∙ ap p (sym is) ∙ passes))
    by false e (inr there) rest = rest there

-- where nothing is kept, none passes
pub none_kept : {X : Type 0} (p : X → Bool) (xs : List X) (x : X) → filter p xs ≡ [] → IsAmong x xs → p x ≡ false
none_kept p xs x h among = by (p x) refl
  where
    by : (b : Bool) → p x ≡ b → b ≡ false
    by true e = absurd (among-empty x (filter p xs) h (in_filter p xs x among e))
    by false e = refl

-- what is kept of two lists is the same for each key: then so is what is among them
pub among-by_key : {X : Type 0} (key : X → ℕ) (xs ys : List X) → ((id : ℕ) → filter (λ x. key x == id) xs ≡ filter (λ x. key x == id) ys) → (x : X) → IsAmong x xs → IsAmong x ys
among-by_key key xs ys same x among =
    among-filter (λ y. key y == key x) ys x
    (subst (IsAmong x) (same (key x)) (in_filter (λ y. key y == key x) xs x among (eq-eqb (key x) (key x) refl)))

-- ---- maps

-- what one of a list is mapped to is among what the list is mapped to
pub in-map : {X Y : Type 0} (f : X → Y) (xs : List X) (x : X) → IsAmong x xs → IsAmong (f x) (map f xs)
in-map f [] x among = absurd among
in-map f (y ∷ ys) x (inl e) = inl (ap f e)
in-map f (y ∷ ys) x (inr there) = inr (in-map f ys x there)

-- what a list is mapped to comes of one of it
pub among-map : {X Y : Type 0} (f : X → Y) (xs : List X) (y : Y) → IsAmong y (map f xs) → (x : X) × IsAmong x xs × (y ≡ f x)
among-map f [] y among = absurd among
among-map f (x ∷ xs) y (inl e) = (x, inl refl, e)
among-map f (x ∷ xs) y (inr there) = let found = among-map f xs y there in (found.0, inr found.1, found.2)

-- what an element gives is among what the list gives; and what is among that is given by some element
pub in-filter_map : {X Y : Type 0} (f : X → Option Y) (xs : List X) (x : X) (y : Y) → IsAmong x xs → f x ≡ Some y → IsAmong y (filter_map f xs)
in-filter_map f [] x y among e = absurd among
in-filter_map f (z ∷ zs) x y (inl is) e = subst (λ o. IsAmong y (cons_option o (filter_map f zs))) (sym (ap f (sym is) ∙ e)) (inl refl)
in-filter_map f (z ∷ zs) x y (inr there) e = by (f z) (in-filter_map f zs x y there e)
  where
    by : (o : Option _) → IsAmong y (filter_map f zs) → IsAmong y (cons_option o (filter_map f zs))
    by None rest = rest
    by (Some w) rest = inr rest

-- what is among what the list gives is given by some element of it
pub among-filter_map : {X Y : Type 0} (f : X → Option Y) (xs : List X) (y : Y) → IsAmong y (filter_map f xs) → (x : X) × IsAmong x xs × (f x ≡ Some y)
among-filter_map f [] y among = absurd among
among-filter_map f (z ∷ zs) y among = by (f z) refl among (among-filter_map f zs y)
  where
    by : (o : Option _) → f z ≡ o → IsAmong y (cons_option o (filter_map f zs)) → (IsAmong y (filter_map f zs) → (x : _) × IsAmong x zs × (f x ≡ Some y)) → (x : _) × ((x ≡ z) ⊎ IsAmong x zs) × (f x ≡ Some y)
    by None e there rest = let found = rest there in (found.0, inr found.1, found.2)
    by (Some w) e (inl is) rest = (z, inl refl, e ∙ ap Some (sym is))
    by (Some w) e (inr there) rest = let found = rest there in (found.0, inr found.1, found.2)

-- ---- searches

-- what is found is there
pub among-find : {X : Type 0} (p : X → Bool) (xs : List X) (x : X) → find p xs ≡ Some x → IsAmong x xs
among-find p [] x h = absurd (none-some x h)
among-find p (y ∷ ys) x h = by (p y) (among-find p ys x) h
  where
    by : (b : Bool) → (find p ys ≡ Some x → IsAmong x ys) → cond b (Some y) (find p ys) ≡ Some x → (x ≡ y) ⊎ IsAmong x ys
    by true rest k = inl (sym (same_Some y x k))
    by false rest k = inr (rest k)

-- one that passes is there, so one is found
pub some-found : {X : Type 0} (p : X → Bool) (xs : List X) (x : X) → IsAmong x xs → p x ≡ true → (y : X) × (find p xs ≡ Some y)
some-found p [] x among e = absurd among
some-found p (z ∷ zs) x (inl is) e = (z, ap (λ b. cond b (Some z) (find p zs)) (ap p (sym is) ∙ e))
some-found p (z ∷ zs) x (inr there) e = by (p z) (some-found p zs x there e)
  where
    by : (b : Bool) → (y : _) × (find p zs ≡ Some y) → (y : _) × (cond b (Some z) (find p zs) ≡ Some y)
    by true rest = (z, refl)
    by false rest = rest

-- where none is found, none passes
pub none_passes : {X : Type 0} (p : X → Bool) (xs : List X) (x : X) → find p xs ≡ None → IsAmong x xs → p x ≡ false
none_passes p xs x h among = by (p x) refl
  where
    by : (b : Bool) → p x ≡ b → b ≡ false
    by true e = let found = some-found p xs x among e in absurd (none-some found.0 (sym h ∙ found.1))
    by false e = refl

-- ---- in another order

-- lists that are one another's permutation have the same members
pub among-moved : {X : Type 0} (xs ys : List X) (x : X) → IsPermutation xs ys → IsAmong x ys → IsAmong x xs
among-moved xs ys x moved among =
    let own = all_of (λ z. IsAmong z xs) xs (λ z there. there) in
    let all = All-permutation (λ z. IsAmong z xs) xs ys moved (λ k d inside. each-place (λ z. IsAmong z xs) xs k d own inside) in
    each_of (λ z. IsAmong z xs) ys x (each-by_places (λ z. IsAmong z xs) ys x (λ k inside. all k x inside)) among

-- what is among the first of two such lists is among the second
pub among-back : {X : Type 0} (xs ys : List X) (x : X) → IsPermutation xs ys → IsAmong x xs → IsAmong x ys
among-back xs ys x moved among = among-moved ys xs x (IsPermutation-sym xs ys moved) among
