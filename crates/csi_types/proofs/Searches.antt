-- What a search of a list finds, after an element was added, changed or taken out.
use Rattle.std.proofs.Common.{◌≡◌, ◌⊎◌, ◌≤◌, ◌+◌, ℕ, suc, List, [], ◌∷◌, ◌++◌, map, Bool, true, false, cond, not, length, ◌&&◌, refl, sym, ◌∙◌, ap, inl, inr, arith}
use Rattle.std.specs.Prelude.{Option, Some, None, option_map, find, filter, position, nat_lt}
use Rattle.std.specs.List.{AllByRecursion, position_or_len}
use Rattle.std.specs.Option.{option_or}
use Rattle.std.proofs.lemmas.Bool.{false≢true}
use Rattle.std.proofs.lemmas.Bool.Decides.{nat_tests}
use Rattle.std.proofs.lemmas.List.Folds as folds
use Rattle.std.proofs.lemmas.Option.{none-some, same_Some}
use Rattle.csi_types.specs.Model.Members.{IsAmong}
use Rattle.csi_types.proofs.Options.{some_is_not_none, option_or-none, option_or-left}

-- ---- what is found, and where nothing is

-- what is found passes
pub find-passes : {X : Type 0} (p : X → Bool) (xs : List X) (x : X) → find p xs ≡ Some x → p x ≡ true
find-passes p [] x h = absurd (none-some x h)
find-passes p (y ∷ ys) x h = by (p y) refl (find-passes p ys x) h
  where
    by : (b : Bool) → p y ≡ b → (find p ys ≡ Some x → p x ≡ true) → cond b (Some y) (find p ys) ≡ Some x → p x ≡ true
    by true e later k = ap p (sym (same_Some y x k)) ∙ e
    by false e later k = later k

-- where a search finds nothing, the first doesn't pass, and nothing is found later
pub find-missed : {X : Type 0} (b : Bool) (y : X) (rest : Option X) → cond b (Some y) rest ≡ None → (b ≡ false) × (rest ≡ None)
find-missed true y rest h = absurd (some_is_not_none y h)
find-missed false y rest h = (refl, h)

-- nothing is found where none passes
pub find-none : {X : Type 0} (p : X → Bool) (xs : List X) → ((x : X) → IsAmong x xs → p x ≡ false) → find p xs ≡ None
find-none p [] f = refl
find-none p (x ∷ xs) f = let first : p x ≡ false = f x (inl refl) in rw first (find-none p xs (λ y among. f y (inr among)))

-- the only one that passes is found
pub find-one : {X : Type 0} (p : X → Bool) (xs : List X) (x : X) → IsAmong x xs → p x ≡ true → ((y : X) → IsAmong y xs → p y ≡ true → y ≡ x) → find p xs ≡ Some x
find-one p [] x among passes only = absurd among
find-one p (y ∷ ys) x among passes only = by (p y) refl among (λ there. find-one p ys x there passes (λ z among. only z (inr among)))
  where
    by : (b : Bool) → p y ≡ b → (x ≡ y) ⊎ IsAmong x ys → (IsAmong x ys → find p ys ≡ Some x) → cond b (Some y) (find p ys) ≡ Some x
    by true e there rest = ap Some (only y (inl refl) e)
    by false e (inl is) rest = absurd (false≢true (sym e ∙ ap p (sym is) ∙ passes))
    by false e (inr there) rest = rest there

-- where none fails, each passes
pub find_none-all : {X : Type 0} (p : X → Bool) (xs : List X) → find (λ x. not (p x)) xs ≡ None → AllByRecursion (λ x. p x ≡ true) xs
find_none-all p [] none = tt
find_none-all p (x ∷ xs) none = by (p x) refl (find_none-all p xs) none
  where
    by : (b : Bool) → p x ≡ b → (find (λ x. not (p x)) xs ≡ None → AllByRecursion (λ x. p x ≡ true) xs) → cond (not b) (Some x) (find (λ x. not (p x)) xs) ≡ None → (p x ≡ true) × AllByRecursion (λ x. p x ≡ true) xs
    by true e f k = (e, f k)
    by false e f k = absurd (some_is_not_none x k)

-- ---- one more

-- a search of a list with one more element
pub find-append : {X : Type 0} (p : X → Bool) (xs : List X) (x : X) → find p (xs ++ x ∷ []) ≡ option_or (find p xs) (cond (p x) (Some x) None)
find-append p xs x = folds.find-append p xs (x ∷ [])

-- the first that passes, where only the one that was added does
pub find-append_one : {X : Type 0} (p : X → Bool) (xs : List X) (x : X) → p x ≡ true → find p xs ≡ None → find p (xs ++ x ∷ []) ≡ Some x
find-append_one p xs x passes none = find-append p xs x ∙ option_or-none (find p xs) _ none ∙ ap (λ b. cond b (Some x) None) passes

-- one that doesn't pass was added
pub find-append_other : {X : Type 0} (p : X → Bool) (xs : List X) (x : X) → p x ≡ false → find p (xs ++ x ∷ []) ≡ find p xs
find-append_other p xs x fails = find-append p xs x ∙ ap (λ (b : Bool). option_or (find p xs) (cond b (Some x) None)) fails ∙ option_or-left (find p xs)

-- ---- some taken out

-- a search finds the same whether one element is kept or not, where it is kept if it passes
kept_first : {X : Type 0} (p : X → Bool) (y : X) (rest : List X) (found : Option X) (a b : Bool) → p y ≡ a → (a ≡ true → b ≡ true) → find p rest ≡ found → find p (cond b (y ∷ rest) rest) ≡ cond (p y) (Some y) found
kept_first p y rest found a true e f h = ap (cond (p y) (Some y)) h
kept_first p y rest found true false e f h = absurd (false≢true (f refl))
kept_first p y rest found false false e f h = rw e h

-- a search finds the same where all that pass it are kept
pub find-filter : {X : Type 0} (p q : X → Bool) (xs : List X) → ((x : X) → p x ≡ true → q x ≡ true) → find p (filter q xs) ≡ find p xs
find-filter p q [] f = refl
find-filter p q (y ∷ ys) f = kept_first p y (filter q ys) (find p ys) (p y) (q y) refl (f y) (find-filter p q ys f)

-- nothing is found where none that is kept passes
pub find-filtered : {X : Type 0} (p q : X → Bool) (xs : List X) → ((x : X) → q x ≡ true → p x ≡ false) → find p (filter q xs) ≡ None
find-filtered p q [] f = refl
find-filtered p q (x ∷ xs) f = by (q x) (f x) (find-filtered p q xs f)
  where
    by : (b : Bool) → (b ≡ true → p x ≡ false) → find p (filter q xs) ≡ None → find p (cond b (x ∷ filter q xs) (filter q xs)) ≡ None
    by false g h = h
    by true g h = let fails : p x ≡ false = g refl in rw fails h

-- none passes where all that do were taken out
pub find-filter_not : {X : Type 0} (p : X → Bool) (xs : List X) → find p (filter (λ x. not (p x)) xs) ≡ None
find-filter_not p xs = find-filtered p (λ x. not (p x)) xs (λ x e. by (p x) e)
  where
    by : (b : Bool) → not b ≡ true → b ≡ false
    by true e = absurd (false≢true e)
    by false e = refl

-- what isn't found among all isn't found among some
pub find-none_in_filter : {X : Type 0} (p q : X → Bool) (xs : List X) → find p xs ≡ None → find p (filter q xs) ≡ None
find-none_in_filter p q [] h = refl
find-none_in_filter p q (y ∷ ys) h =
    let parts = find-missed (p y) y (find p ys) h in
    by (q y) parts.0 (find-none_in_filter p q ys parts.1)
  where
    by : (c : Bool) → p y ≡ false → find p (filter q ys) ≡ None → find p (cond c (y ∷ filter q ys) (filter q ys)) ≡ None
    by true e k = rw e k
    by false e k = k

-- a search of what passes another test
pub find-and_filter : {X : Type 0} (p q : X → Bool) (xs : List X) → find (λ x. p x && q x) xs ≡ find q (filter p xs)
find-and_filter p q [] = refl
find-and_filter p q (x ∷ xs) = by (p x) (find-and_filter p q xs)
  where
    by : (b : Bool) → find (λ x. p x && q x) xs ≡ find q (filter p xs) → cond (b && q x) (Some x) (find (λ x. p x && q x) xs) ≡ find q (cond b (x ∷ filter p xs) (filter p xs))
    by true k = ap (λ o. cond (q x) (Some x) o) k
    by false k = k

-- what is found also passes a second test
pub find-and : {X : Type 0} (p q : X → Bool) (xs : List X) (x : X) → find p xs ≡ Some x → q x ≡ true → find (λ y. p y && q y) xs ≡ Some x
find-and p q [] x h passes = absurd (none-some x h)
find-and p q (y ∷ ys) x h passes = by (p y) (λ k. find-and p q ys x k passes) h
  where
    by : (b : Bool) → (find p ys ≡ Some x → find (λ y. p y && q y) ys ≡ Some x) → cond b (Some y) (find p ys) ≡ Some x → cond (b && q y) (Some y) (find (λ y. p y && q y) ys) ≡ Some x
    by true f k = rw (ap q (same_Some y x k) ∙ passes) k
    by false f k = f k

-- where none is found by a test, none is by it and another, of a list that is seen through a function
pub find-and_none : {R X : Type 0} (view : R → X) (p q : X → Bool) (rs : List R) → find (λ r. p (view r)) rs ≡ None → find (λ x. p x && q x) (map view rs) ≡ None
find-and_none view p q [] none = refl
find-and_none view p q (r ∷ rs) none =
    let parts = find-missed (p (view r)) r (find (λ r. p (view r)) rs) none in
    ap (λ b. cond (b && q (view r)) (Some (view r)) (find (λ x. p x && q x) (map view rs))) parts.0 ∙ find-and_none view p q rs parts.1

-- the first of a list
abbrev pub first_of_list : {X : Type 0} → List X → Option X
first_of_list [] = None
first_of_list (x ∷ xs) = Some x

-- what a search finds is the first that passes
pub find-first : {X Y : Type 0} (p : X → Bool) (f : X → Y) (xs : List X) → option_map f (find p xs) ≡ first_of_list (map f (filter p xs))
find-first p f [] = refl
find-first p f (x ∷ xs) = by (p x) (find-first p f xs)
  where
    by : (b : Bool) → option_map f (find p xs) ≡ first_of_list (map f (filter p xs)) → option_map f (cond b (Some x) (find p xs)) ≡ first_of_list (map f (cond b (x ∷ filter p xs) (filter p xs)))
    by true h = refl
    by false h = h

-- ---- lists that a map gave

-- a search of a list that is seen through a function
pub find-of_map : {X Y : Type 0} (p : Y → Bool) (f : X → Y) (xs : List X) → find p (map f xs) ≡ option_map f (find (λ x. p (f x)) xs)
find-of_map p f [] = refl
find-of_map p f (y ∷ ys) = by (p (f y)) (find-of_map p f ys)
  where
    by : (b : Bool) → find p (map f ys) ≡ option_map f (find (λ x. p (f x)) ys) → cond b (Some (f y)) (find p (map f ys)) ≡ option_map f (cond b (Some y) (find (λ x. p (f x)) ys))
    by true h = refl
    by false h = h

-- a change of those that are there, which makes no difference to the test, is made to what is found
pub find-map_among : {X : Type 0} (p : X → Bool) (f : X → X) (xs : List X) → ((x : X) → IsAmong x xs → p (f x) ≡ p x) → find p (map f xs) ≡ option_map f (find p xs)
find-map_among p f [] same = refl
find-map_among p f (x ∷ xs) same =
    let first : p (f x) ≡ p x = same x (inl refl) in rw first (by (p x) (find-map_among p f xs (λ y among. same y (inr among))))
  where
    by : (b : Bool) → find p (map f xs) ≡ option_map f (find p xs) → cond b (Some (f x)) (find p (map f xs)) ≡ option_map f (cond b (Some x) (find p xs))
    by true h = refl
    by false h = h

-- the same, of each value
pub find-map : {X : Type 0} (p : X → Bool) (f : X → X) (xs : List X) → ((x : X) → p (f x) ≡ p x) → find p (map f xs) ≡ option_map f (find p xs)
find-map p f xs same = find-map_among p f xs (λ x among. same x)

-- none passes once each was changed so that it doesn't
pub find-map_none : {X : Type 0} (p : X → Bool) (f : X → X) (xs : List X) → ((x : X) → p (f x) ≡ false) → find p (map f xs) ≡ None
find-map_none p f [] none = refl
find-map_none p f (x ∷ xs) none = let first : p (f x) ≡ false = none x in rw first (find-map_none p f xs none)

-- ---- tests that agree

-- at what is there
pub find-same_among : {X : Type 0} (p q : X → Bool) (xs : List X) → ((x : X) → IsAmong x xs → p x ≡ q x) → find p xs ≡ find q xs
find-same_among p q [] same = refl
find-same_among p q (x ∷ xs) same =
    ap (λ b. cond b (Some x) (find p xs)) (same x (inl refl)) ∙ ap (λ rest. cond (q x) (Some x) rest) (find-same_among p q xs (λ y among. same y (inr among)))

-- at each value
pub find-same : {X : Type 0} (p q : X → Bool) (xs : List X) → ((x : X) → p x ≡ q x) → find p xs ≡ find q xs
find-same p q xs same = find-same_among p q xs (λ x among. same x)

-- ---- places

-- where the place of the first that passes is beyond the list, a search finds nothing
find-beyond : {X : Type 0} (p : X → Bool) (xs : List X) → length xs ≤ position_or_len p xs → find p xs ≡ None
find-beyond p [] h = refl
find-beyond p (x ∷ xs) h = by (p x) (find-beyond p xs) h
  where
    by : (b : Bool) → (length xs ≤ position_or_len p xs → find p xs ≡ None) → suc (length xs) ≤ cond (not b) (1 + position_or_len p xs) 0 → cond b (Some x) (find p xs) ≡ None
    by true rest k = absurd (omega arith)
    by false rest k = rest (omega arith)

-- where no place is given, since it isn't within the list, it is at its end or beyond
beyond : (place size : ℕ) (b : Bool) → nat_lt place size ≡ b → cond b (Some place) None ≡ None → size ≤ place
beyond place size true e h = absurd (some_is_not_none place h)
beyond place size false e h = grind (arith, nat_tests)

-- a search that finds no place finds nothing
pub find-no_place : {X : Type 0} (p : X → Bool) (xs : List X) → position p xs ≡ None → find p xs ≡ None
find-no_place p xs none = find-beyond p xs (beyond (position_or_len p xs) (length xs) (nat_lt (position_or_len p xs) (length xs)) refl none)
