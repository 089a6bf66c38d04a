-- What a filter keeps, after an element was added, changed or taken out.
use Rattle.std.proofs.Common.{◌≡◌, ◌≤◌, suc, List, [], ◌∷◌, ◌++◌, map, Bool, true, false, cond, not, length, refl, ap, ◌∙◌, arith}
use Rattle.std.specs.Prelude.{Option, Some, None, find, filter}
use Rattle.std.specs.List.{AllByRecursion}
use Rattle.std.proofs.lemmas.Bool.{false≢true}

-- ---- of all, or of none

-- each passes
pub filter-each : {X : Type 0} (p : X → Bool) (xs : List X) → AllByRecursion (λ x. p x ≡ true) xs → filter p xs ≡ xs
filter-each p [] each = refl
filter-each p (x ∷ xs) each = rw each.0 (ap (λ (rest : List _). x ∷ rest) (filter-each p xs each.1))

-- none passes
pub filter-no_one : {X : Type 0} (p : X → Bool) (xs : List X) → AllByRecursion (λ x. p x ≡ false) xs → filter p xs ≡ []
filter-no_one p [] each = refl
filter-no_one p (x ∷ xs) each = rw each.0 (filter-no_one p xs each.1)

-- each of those that are kept passes
pub each-passes : {X : Type 0} (p : X → Bool) (xs : List X) → AllByRecursion (λ x. p x ≡ true) (filter p xs)
each-passes p [] = tt
each-passes p (x ∷ xs) = by (p x) refl (each-passes p xs)
  where
    by : (b : Bool) → p x ≡ b → AllByRecursion (λ x. p x ≡ true) (filter p xs) → AllByRecursion (λ x. p x ≡ true) (cond b (x ∷ filter p xs) (filter p xs))
    by true e all = (e, all)
    by false e all = all

-- a filter keeps no more than there were
pub filter-no_longer : {X : Type 0} (p : X → Bool) (xs : List X) → length (filter p xs) ≤ length xs
filter-no_longer p [] = omega arith
filter-no_longer p (x ∷ xs) = by (p x) (filter-no_longer p xs)
  where
    by : (b : Bool) → length (filter p xs) ≤ length xs → length (cond b (x ∷ filter p xs) (filter p xs)) ≤ suc (length xs)
    by true h = omega (arith, h)
    by false h = omega (arith, h)

-- ---- one more

-- one that doesn't pass was added
pub filter-append_one : {X : Type 0} (q : X → Bool) (xs : List X) (x : X) → q x ≡ false → filter q (xs ++ x ∷ []) ≡ filter q xs
filter-append_one q [] x fails = rw fails refl
filter-append_one q (y ∷ ys) x fails = ap (λ (rest : List _). cond (q y) (y ∷ rest) rest) (filter-append_one q ys x fails)

-- one that passes was added
pub filter-append_passes : {X : Type 0} (p : X → Bool) (xs : List X) (x : X) → p x ≡ true → filter p (xs ++ x ∷ []) ≡ filter p xs ++ x ∷ []
filter-append_passes p [] x passes = rw passes refl
filter-append_passes p (y ∷ ys) x passes = by (p y) (filter-append_passes p ys x passes)
  where
    by : (b : Bool) → filter p (ys ++ x ∷ []) ≡ filter p ys ++ x ∷ [] → cond b (y ∷ filter p (ys ++ x ∷ [])) (filter p (ys ++ x ∷ [])) ≡ cond b (y ∷ filter p ys) (filter p ys) ++ x ∷ []
    by true h = ap (λ (r : List _). y ∷ r) h
    by false h = h

-- ---- two filters

-- a filter keeps the same whether one element was taken out before or not, where it wasn't if it passes
inner : {X : Type 0} (q : X → Bool) (y : X) (rest all : List X) (b c : Bool) → q y ≡ b → (b ≡ true → c ≡ true) → filter q rest ≡ all
    → filter q (cond c (y ∷ rest) rest) ≡ cond (q y) (y ∷ all) all
inner q y rest all b true e f h = ap (λ (r : List _). cond (q y) (y ∷ r) r) h
inner q y rest all true false e f h = absurd (false≢true (f refl))
inner q y rest all false false e f h = rw e h

-- of those that pass, some that don't were taken out
pub filter-filter : {X : Type 0} (q p : X → Bool) (xs : List X) → ((x : X) → q x ≡ true → p x ≡ true) → filter q (filter p xs) ≡ filter q xs
filter-filter q p [] f = refl
filter-filter q p (y ∷ ys) f = inner q y (filter p ys) (filter q ys) (q y) (p y) refl (f y) (filter-filter q p ys f)

-- of one element, two filters keep the same in either order
swapped : {X : Type 0} (p q : X → Bool) (y : X) (a b : List X) (c d : Bool) → p y ≡ c → q y ≡ d → filter p a ≡ filter q b
    → filter p (cond d (y ∷ a) a) ≡ filter q (cond c (y ∷ b) b)
swapped p q y a b true true e f h = rw (e, f) (ap (λ (r : List _). y ∷ r) h)
swapped p q y a b true false e f h = rw f h
swapped p q y a b false true e f h = rw e h
swapped p q y a b false false e f h = h

-- in either order
pub filter-swap : {X : Type 0} (p q : X → Bool) (xs : List X) → filter p (filter q xs) ≡ filter q (filter p xs)
filter-swap p q [] = refl
filter-swap p q (y ∷ ys) = swapped p q y (filter q ys) (filter p ys) (p y) (q y) refl refl (filter-swap p q ys)

-- nothing passes both a test and its opposite
pub filter-none : {X : Type 0} (p : X → Bool) (xs : List X) → filter p (filter (λ x. not (p x)) xs) ≡ []
filter-none p [] = refl
filter-none p (y ∷ ys) = by (p y) refl (filter-none p ys)
  where
    by : (b : Bool) → p y ≡ b → filter p (filter (λ x. not (p x)) ys) ≡ [] → filter p (cond (not b) (y ∷ filter (λ x. not (p x)) ys) (filter (λ x. not (p x)) ys)) ≡ []
    by true e h = h
    by false e h = rw e h

-- ---- tests that all pass (for two that agree the kit has `filter_agree`)

-- a filter that each value passes keeps all
pub filter-all : {X : Type 0} (p : X → Bool) (xs : List X) → ((x : X) → p x ≡ true) → filter p xs ≡ xs
filter-all p [] all = refl
filter-all p (y ∷ ys) all = let first = all y in rw first (ap (λ (r : List _). y ∷ r) (filter-all p ys all))

-- ---- lists that a map gave

-- a filter of a list that is seen through a function
pub filter-of_map : {X Y : Type 0} (p : Y → Bool) (f : X → Y) (xs : List X) → filter p (map f xs) ≡ map f (filter (λ x. p (f x)) xs)
filter-of_map p f [] = refl
filter-of_map p f (y ∷ ys) = by (p (f y)) (filter-of_map p f ys)
  where
    by : (b : Bool) → filter p (map f ys) ≡ map f (filter (λ x. p (f x)) ys) → cond b (f y ∷ filter p (map f ys)) (filter p (map f ys)) ≡ map f (cond b (y ∷ filter (λ x. p (f x)) ys) (filter (λ x. p (f x)) ys))
    by true h = ap (λ (r : List _). f y ∷ r) h
    by false h = h

-- where one element passes exactly where another does, and is that one if so, a filter keeps the same with either
same_one : {X : Type 0} (q : X → Bool) (y z : X) (rest all : List X) (b : Bool) → q z ≡ b → q y ≡ q z → (b ≡ true → y ≡ z) → rest ≡ all
    → cond (q y) (y ∷ rest) rest ≡ cond (q z) (z ∷ all) all
same_one q y z rest all true e same f h = let first : q y ≡ true = same ∙ e in let equal : y ≡ z = f refl in rw (first, e, equal, h) refl
same_one q y z rest all false e same f h = let first : q y ≡ false = same ∙ e in rw (first, e) h

-- those that pass aren't changed
pub filter-map : {X : Type 0} (q : X → Bool) (f : X → X) (xs : List X) → ((x : X) → q (f x) ≡ q x) → ((x : X) → q x ≡ true → f x ≡ x) → filter q (map f xs) ≡ filter q xs
filter-map q f [] same stays = refl
filter-map q f (y ∷ ys) same stays = same_one q (f y) y (filter q (map f ys)) (filter q ys) (q y) refl (same y) (stays y) (filter-map q f ys same stays)

-- ---- searches that find nothing

-- where a search of one element and the rest finds nothing, that element isn't taken out either
none_taken : {X : Type 0} (y : X) (rest all : List X) (found : Option X) (b : Bool) → (found ≡ None → rest ≡ all) → cond b (Some y) found ≡ None → cond (not b) (y ∷ rest) rest ≡ y ∷ all
none_taken y rest all found true f h = cc
none_taken y rest all found false f h = ap (λ (r : List _). y ∷ r) (f h)

-- nothing is taken out where none passes
pub filter-not_none : {X : Type 0} (p : X → Bool) (xs : List X) → find p xs ≡ None → filter (λ x. not (p x)) xs ≡ xs
filter-not_none p [] h = refl
filter-not_none p (y ∷ ys) h = none_taken y (filter (λ x. not (p x)) ys) ys (find p ys) (p y) (filter-not_none p ys) h
