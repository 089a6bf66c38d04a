-- The first element that passes a test, at its place, and what follows where another is put there.
use Rattle.std.proofs.Common.{◌≡◌, ◌<◌, ◌+◌, ℕ, zero, suc, Bool, true, false, cond, List, [], ◌∷◌, ◌++◌, length, get_or, map, filter, set, take, drop, refl, sym, ◌∙◌, ap, subst, arith}
use Rattle.std.specs.Prelude.{Option, Some, None, find, position, ◌&&◌}
use Rattle.std.specs.List.{position_or_len}
use Rattle.std.proofs.lemmas.Bool.Decides.{nat_tests}
use Rattle.std.proofs.lemmas.List.{length-map, map-set, get_or-map}
use Rattle.std.proofs.lemmas.List.Edits.{map_over_more}
use Rattle.std.proofs.lemmas.List.Quantifiers.{position-Some}
use Rattle.csi_types.specs.Public.Places.{AtMostOne, IsAt, FirstAt}
use Rattle.csi_types.proofs.Options.{some_is_not_none}
use Rattle.csi_types.proofs.Searches.{find-append_other, find-missed, find-none_in_filter, find-and_none}
use Rattle.csi_types.proofs.Maps.{map-none_shown}

-- ---- what stands at a place

-- what is read at a place within the list stands there
pub at-index : {X : Type 0} (xs : List X) (i : ℕ) (d : X) → i < length xs → IsAt xs i (get_or xs i d)
at-index [] i d within = absurd (omega arith)
at-index (x ∷ xs) zero d within = refl
at-index (x ∷ xs) (suc i) d within = at-index xs i d (omega arith)

-- at most one value stands at a place
pub same-at : {X : Type 0} (xs : List X) (place : ℕ) (x y : X) → IsAt xs place x → IsAt xs place y → x ≡ y
same-at [] place x y at other = absurd at
same-at (z ∷ zs) zero x y at other = sym at ∙ other
same-at (z ∷ zs) (suc place) x y at other = same-at zs place x y at other

-- where one that passes stands, a search finds one
pub find-not_none : {X : Type 0} (p : X → Bool) (xs : List X) (i : ℕ) (x : X) → IsAt xs i x → p x ≡ true → find p xs ≡ None → ⊥
find-not_none p [] i x at passes h = at
find-not_none p (y ∷ ys) zero x at passes h =
    let own : p y ≡ true = ap p at ∙ passes in
    some_is_not_none y (ap (λ b. cond b (Some y) (find p ys)) (sym own) ∙ h)
find-not_none p (y ∷ ys) (suc i) x at passes h = find-not_none p ys i x at passes (find-missed (p y) y (find p ys) h).1

-- ---- the first that passes

-- what is read at a place is the first that passes, where it passes and none before it does
first-from : {X : Type 0} (p : X → Bool) (xs : List X) (i : ℕ) (d : X) → i < length xs → p (get_or xs i d) ≡ true → ((k : ℕ) → k < i → p (get_or xs k d) ≡ false) → FirstAt p xs i (get_or xs i d)
first-from p [] i d inside here before = absurd (omega arith)
first-from p (x ∷ xs) zero d inside here before = (here, refl)
first-from p (x ∷ xs) (suc i) d inside here before = (before 0 (omega arith), first-from p xs i d (omega arith) here (λ k below. before (suc k) (omega arith)))

-- by what `position` gives
pub FirstAt-position : {X : Type 0} (p : X → Bool) (xs : List X) (i : ℕ) (x : X) → position p xs ≡ Some i → x ≡ get_or xs i x → FirstAt p xs i x
FirstAt-position p xs i x at is =
    let found = position-Some p xs i x at in
    subst (λ y. FirstAt p xs i y) (sym is) (first-from p xs i x found.0 found.1 found.2)

-- the first that passes is what a search finds
pub FirstAt-find : {X : Type 0} (p : X → Bool) (xs : List X) (i : ℕ) (x : X) → FirstAt p xs i x → find p xs ≡ Some x
FirstAt-find p [] i x h = absurd h
FirstAt-find p (y ∷ ys) zero x h = rw (h.0) (ap Some (h.1))
FirstAt-find p (y ∷ ys) (suc i) x h = rw (h.0) (FirstAt-find p ys i x (h.1))

-- the first that passes does pass; it stands at its place; and its place is within the list: this and the next two
pub FirstAt-passes : {X : Type 0} (p : X → Bool) (xs : List X) (i : ℕ) (x : X) → FirstAt p xs i x → p x ≡ true
FirstAt-passes p [] i x h = absurd h
FirstAt-passes p (y ∷ ys) zero x h = ap p (sym (h.1)) ∙ h.0
FirstAt-passes p (y ∷ ys) (suc i) x h = FirstAt-passes p ys i x (h.1)

-- the first that passes stands at its place
pub FirstAt-is_at : {X : Type 0} (p : X → Bool) (xs : List X) (i : ℕ) (x : X) → FirstAt p xs i x → IsAt xs i x
FirstAt-is_at p [] i x h = h
FirstAt-is_at p (y ∷ ys) zero x h = h.1
FirstAt-is_at p (y ∷ ys) (suc i) x h = FirstAt-is_at p ys i x (h.1)

-- the place of the first that passes is within the list
pub FirstAt-within : {X : Type 0} (p : X → Bool) (xs : List X) (i : ℕ) (x : X) → FirstAt p xs i x → i < length xs
FirstAt-within p [] i x first = absurd first
FirstAt-within p (y ∷ ys) zero x first = omega arith
FirstAt-within p (y ∷ ys) (suc i) x first = let rest = FirstAt-within p ys i x (first.1) in omega (arith, rest)

-- the place of the first that passes is the count of those before it
FirstAt-len : {X : Type 0} (p : X → Bool) (xs : List X) (i : ℕ) (x : X) → FirstAt p xs i x → position_or_len p xs ≡ i
FirstAt-len p [] i x first = absurd first
FirstAt-len p (y ∷ ys) zero x first = rw (first.0) refl
FirstAt-len p (y ∷ ys) (suc i) x first = let rest = FirstAt-len p ys i x (first.1) in rw (first.0) (omega (arith, rest))

-- the first that passes has its place
pub position-first : {X : Type 0} (p : X → Bool) (xs : List X) (i : ℕ) (x : X) → FirstAt p xs i x → Some i ≡ position p xs
position-first p xs i x first =
    let at : position_or_len p xs ≡ i = FirstAt-len p xs i x first in
    let within : i < length xs = FirstAt-within p xs i x first in
    grind (arith, nat_tests, at, within)

-- where none passes, the count of those before the first that does is the list's length
none-len : {X : Type 0} (p : X → Bool) (xs : List X) → ((k : ℕ) (d : X) → k < length xs → p (get_or xs k d) ≡ false) → position_or_len p xs ≡ length xs
none-len p [] none = refl
none-len p (x ∷ xs) none =
    let own : p x ≡ false = none 0 x (omega arith) in
    let rest = none-len p xs (λ k d within. none (suc k) d (omega arith)) in
    rw own (omega (arith, rest))

-- where none passes there is no place
pub position-none : {X : Type 0} (p : X → Bool) (xs : List X) → ((k : ℕ) (d : X) → k < length xs → p (get_or xs k d) ≡ false) → None ≡ position p xs
position-none p xs none = let all : position_or_len p xs ≡ length xs = none-len p xs none in grind (arith, nat_tests, all)

-- where at most one passes, one that does is the first
pub FirstAt-only : {X : Type 0} (p : X → Bool) (xs : List X) (i : ℕ) (x : X) → IsAt xs i x → p x ≡ true → AtMostOne p xs → FirstAt p xs i x
FirstAt-only p [] i x at passes one = at
FirstAt-only p (y ∷ ys) zero x at passes one = (ap p at ∙ passes, at)
FirstAt-only p (y ∷ ys) (suc i) x at passes one = (by (p y) refl, FirstAt-only p ys i x at passes (one.1))
  where
    by : (b : Bool) → p y ≡ b → p y ≡ false
    by true e = absurd (find-not_none p ys i x at passes (one.0 e))
    by false e = e

-- a change of those that pass, where at most one does, of a list that is seen through a function
pub map-first : {R X : Type 0} (view : R → X) (p : X → Bool) (f : X → X) (rs : List R) (i : ℕ) (r s : R) → FirstAt (λ r. p (view r)) rs i r → AtMostOne (λ r. p (view r)) rs → view s ≡ f (view r)
    → map view (set rs i s) ≡ map (λ x. cond (p x) (f x) x) (map view rs)
map-first view p f [] i r s first one is = absurd first
map-first view p f (y ∷ ys) zero r s first one is =
    let own : p (view y) ≡ true = first.0 in
    let changed : view s ≡ f (view y) = is ∙ ap (λ r. f (view r)) (sym (first.1)) in
    let rest = map-none_shown view p f ys (one.0 own) in
    rw own (λ k. changed k ∷ sym rest k)
map-first view p f (y ∷ ys) (suc i) r s first one is =
    let own : p (view y) ≡ false = first.0 in
    rw own (ap (λ xs. view y ∷ xs) (map-first view p f ys i r s (first.1) (one.1) is))

-- a second test beside one that at most one element passes
pub find-and_first : {R X : Type 0} (view : R → X) (p q : X → Bool) (rs : List R) (i : ℕ) (r : R) → FirstAt (λ r. p (view r)) rs i r → AtMostOne (λ r. p (view r)) rs
    → find (λ x. p x && q x) (map view rs) ≡ cond (q (view r)) (Some (view r)) None
find-and_first view p q [] i r first one = absurd first
find-and_first {X = X} view p q (y ∷ ys) zero r first one =
    rw (first.0) (ap (λ (o : Option X). cond (q (view y)) (Some (view y)) o) (find-and_none view p q ys (one.0 (first.0)))
    ∙ ap (λ r. cond (q (view r)) (Some (view r)) None) (first.1))
find-and_first view p q (y ∷ ys) (suc i) r first one = rw (first.0) (find-and_first view p q ys i r (first.1) (one.1))

-- ---- another in its place

-- where one that doesn't pass is put in place of one that doesn't, a search finds the same
pub find-set_other : {X : Type 0} (q : X → Bool) (xs : List X) (i : ℕ) (x y : X) → IsAt xs i x → q x ≡ false → q y ≡ false → find q (set xs i y) ≡ find q xs
find-set_other q [] i x y at not_x not_y = absurd at
find-set_other q (z ∷ zs) zero x y at not_x not_y =
    let own : q z ≡ false = ap q at ∙ not_x in rw (own, not_y) refl
find-set_other q (z ∷ zs) (suc i) x y at not_x not_y = ap (λ o. cond (q z) (Some z) o) (find-set_other q zs i x y at not_x not_y)

-- where one that passes is put in place of the first that does, a search finds it
pub find-set_first : {X : Type 0} (q : X → Bool) (xs : List X) (i : ℕ) (x y : X) → FirstAt q xs i x → q y ≡ true → find q (set xs i y) ≡ Some y
find-set_first q [] i x y first passes = absurd first
find-set_first q (z ∷ zs) zero x y first passes = rw passes refl
find-set_first q (z ∷ zs) (suc i) x y first passes = rw (first.0) (find-set_first q zs i x y (first.1) passes)

-- where one that passes exactly where the one in its place did is put there, a search that found nothing finds nothing
pub find-set_none : {X : Type 0} (q : X → Bool) (xs : List X) (i : ℕ) (x y : X) → IsAt xs i x → q y ≡ q x → find q xs ≡ None → find q (set xs i y) ≡ None
find-set_none q [] i x y at same none = none
find-set_none q (z ∷ zs) zero x y at same none =
    let parts = find-missed (q z) z (find q zs) none in
    ap (λ b. cond b (Some y) (find q zs)) (same ∙ ap q (sym at) ∙ parts.0) ∙ parts.1
find-set_none q (z ∷ zs) (suc i) x y at same none =
    let parts = find-missed (q z) z (find q zs) none in
    ap (λ b. cond b (Some z) (find q (set zs i y))) parts.0 ∙ find-set_none q zs i x y at same parts.1

-- ---- at most one

-- at most one passes still, where one that passes exactly where the one in its place did is put there
pub AtMostOne-set : {X : Type 0} (q : X → Bool) (xs : List X) (i : ℕ) (x y : X) → IsAt xs i x → q y ≡ q x → AtMostOne q xs → AtMostOne q (set xs i y)
AtMostOne-set q [] i x y at same one = absurd at
AtMostOne-set q (z ∷ zs) zero x y at same one = (λ e. one.0 (ap q at ∙ sym same ∙ e), one.1)
AtMostOne-set q (z ∷ zs) (suc i) x y at same one = (λ e. find-set_none q zs i x y at same (one.0 e), AtMostOne-set q zs i x y at same (one.1))

-- one more at the end
pub AtMostOne-append : {X : Type 0} (q : X → Bool) (xs : List X) (x : X) → AtMostOne q xs → (q x ≡ true → find q xs ≡ None) → AtMostOne q (xs ++ x ∷ [])
AtMostOne-append q [] x one none = (λ e. refl, tt)
AtMostOne-append q (y ∷ ys) x one none =
    (λ e. by e (q x) refl, AtMostOne-append q ys x (one.1) (λ e. (find-missed (q y) y (find q ys) (none e)).1))
  where
    by : q y ≡ true → (b : Bool) → q x ≡ b → find q (ys ++ x ∷ []) ≡ None
    by e true f = absurd (some_is_not_none y (ap (λ b. cond b (Some y) (find q ys)) (sym e) ∙ none f))
    by e false f = find-append_other q ys x f ∙ one.0 e

-- at most one of those that are kept passes, where at most one of all did
pub AtMostOne-filter : {X : Type 0} (p q : X → Bool) (xs : List X) → AtMostOne p xs → AtMostOne p (filter q xs)
AtMostOne-filter p q [] one = tt
AtMostOne-filter p q (x ∷ xs) one = by (q x) (AtMostOne-filter p q xs (one.1))
  where
    by : (b : Bool) → AtMostOne p (filter q xs) → AtMostOne p (cond b (x ∷ filter q xs) (filter q xs))
    by true k = (λ e. find-none_in_filter p q xs (one.0 e), k)
    by false k = k

-- ---- lists as they are shown

-- one more is changed, as it is shown
pub map_over_more-shown : {R X : Type 0} (view : R → X) (f : X → X) (rs ss : List R) (i : ℕ) (r s : R) → i < length rs → map view ss ≡ map f (take i (map view rs)) ++ drop i (map view rs)
    → i < length ss → r ≡ get_or ss i r → view s ≡ f (view r) → map view (set ss i s) ≡ map f (take (i + 1) (map view rs)) ++ drop (i + 1) (map view rs)
map_over_more-shown view f rs ss i r s inside so_far within there is =
    map-set view ss i s ∙ ap (λ y. set (map view ss) i y) is
    ∙ map_over_more f (map view rs) (map view ss) i (view r) (subst (λ n. i < n) (sym (length-map rs view)) inside) so_far (ap view there ∙ sym (get_or-map view ss i r (view r) within))
