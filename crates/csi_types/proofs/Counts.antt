-- How many of a list pass.
use Rattle.std.proofs.Common.{◌≡◌, ◌⊎◌, ◌≤◌, ◌+◌, suc, List, [], ◌∷◌, map, Bool, true, false, cond, not, length, refl, sym, ◌∙◌, ap, inl, inr, arith}
use Rattle.std.specs.Prelude.{None, find, filter, count_by, nat_lt, ◌||◌}
use Rattle.std.specs.List.{list_any}
use Rattle.std.proofs.lemmas.Bool.{false≢true}
use Rattle.std.proofs.lemmas.List.Sums.{length-filter, sum_by-cons}
use Rattle.csi_types.specs.Model.Members.{IsAmong}
use Rattle.csi_types.specs.Public.Places.{AtMostOne}
use Rattle.csi_types.proofs.Members.{among-kept, has-some, in_filter, some-has}
use Rattle.csi_types.proofs.Searches.{find-missed}
use Rattle.csi_types.proofs.Tests.{alike, any-then, then-any}

-- of a list with one more at its front, as many pass as of the rest, and one more where it does
pub count-cons : {X : Type 0} (p : X → Bool) (x : X) (xs : List X) → count_by p (x ∷ xs) ≡ cond (p x) 1 0 + count_by p xs
count-cons p x xs = sum_by-cons (λ y. cond (p y) 1 0) x xs

-- those that pass a second test, and those that don't
pub count-split : {X : Type 0} (p q : X → Bool) (xs : List X) → count_by p xs ≡ count_by p (filter q xs) + count_by p (filter (λ x. not (q x)) xs)
count-split p q [] = refl
count-split p q (x ∷ xs) = by (q x) (count-split p q xs)
  where
    by : (b : Bool) → count_by p xs ≡ count_by p (filter q xs) + count_by p (filter (λ x. not (q x)) xs)
        → count_by p (x ∷ xs) ≡ count_by p (cond b (x ∷ filter q xs) (filter q xs)) + count_by p (cond (not b) (x ∷ filter (λ x. not (q x)) xs) (filter (λ x. not (q x)) xs))
    by true h = omega (arith, count-cons p x xs, count-cons p x (filter q xs), h)
    by false h = omega (arith, count-cons p x xs, count-cons p x (filter (λ x. not (q x)) xs), h)

-- of a list that is seen through a function, where none is found
pub count-none : {R X : Type 0} (view : R → X) (p : X → Bool) (q : R → Bool) (rs : List R) → ((r : R) → p (view r) ≡ q r) → find q rs ≡ None → count_by p (map view rs) ≡ 0
count-none view p q [] same none = refl
count-none view p q (r ∷ rs) same none =
    let parts = find-missed (q r) r (find q rs) none in
    count-cons p (view r) (map view rs) ∙ rw (same r ∙ parts.0) (omega (arith, count-none view p q rs same parts.1))

-- and where at most one passes
pub count-one : {R X : Type 0} (view : R → X) (p : X → Bool) (q : R → Bool) (rs : List R) → ((r : R) → p (view r) ≡ q r) → AtMostOne q rs → count_by p (map view rs) ≡ cond (list_any q rs) 1 0
count-one view p q [] same one = refl
count-one view p q (r ∷ rs) same one = by (q r) refl (same r) (count-one view p q rs same (one.1))
  where
    by : (b : Bool) → q r ≡ b → p (view r) ≡ q r → count_by p (map view rs) ≡ cond (list_any q rs) 1 0 → count_by p (view r ∷ map view rs) ≡ cond (b || list_any q rs) 1 0
    by true e f k = count-cons p (view r) (map view rs) ∙ (rw (f, e) (omega (arith, count-none view p q rs same (one.0 e))))
    by false e f k = count-cons p (view r) (map view rs) ∙ (rw (f, e) (omega (arith, k)))

-- some pass where their count isn't 0
pub any-counted : {X : Type 0} (p : X → Bool) (xs : List X) → nat_lt 0 (count_by p xs) ≡ list_any p xs
any-counted p xs =
    ap (nat_lt 0) (sym (length-filter p xs))
    ∙ alike (nat_lt 0 (length (filter p xs))) (list_any p xs)
    (λ e. let found = has-some (filter p xs) e in let there = among-kept p xs found.0 found.1 in then-any p xs found.0 there.0 there.1)
    (λ e. let found = any-then p xs e in some-has (filter p xs) found.0 (in_filter p xs found.0 found.1 found.2))

-- two of a list that both pass
pub two-pass : {X : Type 0} (p : X → Bool) (x y : X) (ys : List X) → p x ≡ true → p y ≡ true → IsAmong y ys → 2 ≤ length (filter p (x ∷ ys))
two-pass p x y ys first second among = rw first (by (filter p ys) (in_filter p ys y among second))
  where
    by : (zs : List _) → IsAmong y zs → 2 ≤ suc (length zs)
    by [] there = absurd there
    by (z ∷ zs) there = omega arith

-- no fewer pass of a longer list
pub no_fewer : {X : Type 0} (p : X → Bool) (x : X) (xs : List X) → length (filter p xs) ≤ length (filter p (x ∷ xs))
no_fewer p x xs = by (p x)
  where
    by : (b : Bool) → length (filter p xs) ≤ length (cond b (x ∷ filter p xs) (filter p xs))
    by true = omega arith
    by false = omega arith

-- one that passes counts as one
counted : (b : Bool) → b ≡ true → 1 ≤ cond b 1 0
counted true e = omega arith
counted false e = absurd (false≢true e)

-- where each passes one of two tests, there are at most as many as pass the one and as pass the other
pub count-either : {X : Type 0} (p q : X → Bool) (xs : List X) → ((x : X) → IsAmong x xs → (p x ≡ true) ⊎ (q x ≡ true)) → length xs ≤ count_by p xs + count_by q xs
count-either p q [] each = omega arith
count-either p q (x ∷ xs) each = by (each x (inl refl)) (count-either p q xs (λ y among. each y (inr among)))
  where
    by : (p x ≡ true) ⊎ (q x ≡ true) → length xs ≤ count_by p xs + count_by q xs → suc (length xs) ≤ count_by p (x ∷ xs) + count_by q (x ∷ xs)
    by (inl e) h = omega (arith, count-cons p x xs, count-cons q x xs, counted (p x) e, h)
    by (inr e) h = omega (arith, count-cons p x xs, count-cons q x xs, counted (q x) e, h)
