-- What is written where an entry is found, and at the end where none is.
use Rattle.csi_orchestrator.proofs.Words.{◌≡◌, ◌<◌, ℕ, zero, suc, Bool, true, false, cond, List, [], ◌∷◌, ◌++◌, length}
use Rattle.csi_orchestrator.proofs.Words.{get_or, map, set, refl, sym, ◌∙◌, ap, subst, arith, Option, Some, None}
use Rattle.csi_orchestrator.proofs.Words.{is_some, find, position, option_map, same_text, change_by, put_by}
use Rattle.csi_orchestrator.proofs.Lemmas.{list_any_at, map-id, map-append, position-Some, some_is_not_none}
use Rattle.csi_orchestrator.proofs.Lemmas.{find-no_place, find-of_map, any-find}

-- the entry of a place, and what is written there
find-there : {R X : Type 0} (view : R → X) (p : X → Bool) (rs : List R) (i : ℕ) (r : R) → i < length rs → p (view (get_or rs i r)) ≡ true
    → ((k : ℕ) → k < i → p (view (get_or rs k r)) ≡ false) → find p (map view rs) ≡ Some (view (get_or rs i r))
find-there view p [] i r inside here before = absurd (omega arith)
find-there view p (x ∷ rs) zero r inside here before = rw here refl
find-there view p (x ∷ rs) (suc i) r inside here before =
    let own : p (view x) ≡ false = before 0 (omega arith) in
    rw own (find-there view p rs i r (omega arith) here (λ k below. before (suc k) (omega arith)))

-- what is written where the first entry of the text stands is a change of the list by that text
change-there : {R X : Type 0} (view : R → X) (key : X → List ℕ) (text : List ℕ) (change : X → X) (rs : List R) (i : ℕ) (r s : R) → i < length rs
    → same_text (key (view (get_or rs i r))) text ≡ true → ((k : ℕ) → k < i → same_text (key (view (get_or rs k r))) text ≡ false) → view s ≡ change (view (get_or rs i r))
    → map view (set rs i s) ≡ change_by key text change (map view rs)
change-there view key text change [] i r s inside here before is = absurd (omega arith)
change-there view key text change (x ∷ rs) zero r s inside here before is = rw here (ap (λ y. y ∷ map view rs) is)
change-there view key text change (x ∷ rs) (suc i) r s inside here before is =
    let own : same_text (key (view x)) text ≡ false = before 0 (omega arith) in
    rw own (ap (λ ys. view x ∷ ys) (change-there view key text change rs i r s (omega arith) here (λ k below. before (suc k) (omega arith)) is))

-- what is written there, with that text again, is put in by its text
put-there : {R X : Type 0} (view : R → X) (key : X → List ℕ) (entry : X) (rs : List R) (i : ℕ) (r s : R) → i < length rs
    → same_text (key (view (get_or rs i r))) (key entry) ≡ true → ((k : ℕ) → k < i → same_text (key (view (get_or rs k r))) (key entry) ≡ false) → view s ≡ entry
    → map view (set rs i s) ≡ put_by key entry (map view rs)
put-there view key entry [] i r s inside here before is = absurd (omega arith)
put-there view key entry (x ∷ rs) zero r s inside here before is = rw here (ap (λ y. y ∷ map view rs) is)
put-there view key entry (x ∷ rs) (suc i) r s inside here before is =
    let own : same_text (key (view x)) (key entry) ≡ false = before 0 (omega arith) in
    rw own (ap (λ ys. view x ∷ ys) (put-there view key entry rs i r s (omega arith) here (λ k below. before (suc k) (omega arith)) is))

-- the same, by what `position` gives
pub find-place : {R X : Type 0} (view : R → X) (p : X → Bool) (rs : List R) (i : ℕ) (r : R) → position (λ x. p (view x)) rs ≡ Some i → r ≡ get_or rs i r → find p (map view rs) ≡ Some (view r)
find-place view p rs i r at there =
    let found = position-Some (λ x. p (view x)) rs i r at in
    find-there view p rs i r found.0 found.1 found.2 ∙ sym (ap (λ x. Some (view x)) there)

-- the same of a change
pub change-place : {R X : Type 0} (view : R → X) (key : X → List ℕ) (text : List ℕ) (change : X → X) (rs : List R) (i : ℕ) (r s : R) → position (λ x. same_text (key (view x)) text) rs ≡ Some i
    → r ≡ get_or rs i r → view s ≡ change (view r) → map view (set rs i s) ≡ change_by key text change (map view rs)
change-place view key text change rs i r s at there is =
    let found = position-Some (λ x. same_text (key (view x)) text) rs i r at in
    change-there view key text change rs i r s found.0 found.1 found.2 (is ∙ ap (λ x. change (view x)) there)

-- the same of what is put in
pub put-place : {R X : Type 0} (view : R → X) (key : X → List ℕ) (entry : X) (text : List ℕ) (rs : List R) (i : ℕ) (r s : R) → key entry ≡ text → position (λ x. same_text (key (view x)) text) rs ≡ Some i
    → view s ≡ entry → map view (set rs i s) ≡ put_by key entry (map view rs)
put-place view key entry text rs i r s own at is =
    let by_key = subst (λ t. position (λ x. same_text (key (view x)) t) rs ≡ Some i) (sym own) at in
    let found = position-Some (λ x. same_text (key (view x)) (key entry)) rs i r by_key in
    put-there view key entry rs i r s found.0 found.1 found.2 is

-- where none is found a change does nothing, and what is put in goes last
change-none_found : {X : Type 0} (key : X → List ℕ) (text : List ℕ) (change : X → X) (xs : List X) → find (λ x. same_text (key x) text) xs ≡ None → xs ≡ change_by key text change xs
change-none_found key text change [] none = refl
change-none_found key text change (x ∷ xs) none = by (same_text (key x) text) (change-none_found key text change xs) none
  where
    by : (b : Bool) → (find (λ x. same_text (key x) text) xs ≡ None → xs ≡ change_by key text change xs) → cond b (Some x) (find (λ x. same_text (key x) text) xs) ≡ None
        → x ∷ xs ≡ cond b (change x ∷ xs) (x ∷ change_by key text change xs)
    by true rest h = absurd (some_is_not_none x h)
    by false rest h = ap (λ ys. x ∷ ys) (rest h)

-- what is put in goes last where none of its text is found
put-none_found : {X : Type 0} (key : X → List ℕ) (entry : X) (xs : List X) → find (λ x. same_text (key x) (key entry)) xs ≡ None → xs ++ entry ∷ [] ≡ put_by key entry xs
put-none_found key entry [] none = refl
put-none_found key entry (x ∷ xs) none = by (same_text (key x) (key entry)) (put-none_found key entry xs) none
  where
    by : (b : Bool) → (find (λ x. same_text (key x) (key entry)) xs ≡ None → xs ++ entry ∷ [] ≡ put_by key entry xs) → cond b (Some x) (find (λ x. same_text (key x) (key entry)) xs) ≡ None
        → x ∷ (xs ++ entry ∷ []) ≡ cond b (entry ∷ xs) (x ∷ put_by key entry xs)
    by true rest h = absurd (some_is_not_none x h)
    by false rest h = ap (λ ys. x ∷ ys) (rest h)

-- the same where `position` gives none
pub find-none_placed : {R X : Type 0} (view : R → X) (p : X → Bool) (rs : List R) → position (λ x. p (view x)) rs ≡ None → find p (map view rs) ≡ None
find-none_placed view p rs none = find-of_map p view rs ∙ ap (option_map view) (find-no_place (λ x. p (view x)) rs none)

-- a change does nothing where `position` gives none
pub change-none_placed : {R X : Type 0} (view : R → X) (key : X → List ℕ) (text : List ℕ) (change : X → X) (rs : List R) → position (λ x. same_text (key (view x)) text) rs ≡ None
    → map view rs ≡ change_by key text change (map view rs)
change-none_placed view key text change rs none =
    change-none_found key text change (map view rs) (find-none_placed view (λ x. same_text (key x) text) rs none)

-- what is put in goes last where `position` gives none
pub put-none_placed : {R X : Type 0} (view : R → X) (key : X → List ℕ) (entry : X) (text : List ℕ) (rs : List R) (s : R) → key entry ≡ text → position (λ x. same_text (key (view x)) text) rs ≡ None
    → view s ≡ entry → map view (rs ++ s ∷ []) ≡ put_by key entry (map view rs)
put-none_placed view key entry text rs s own none is =
    let by_key = subst (λ t. position (λ x. same_text (key (view x)) t) rs ≡ None) (sym own) none in
    map-append view rs (s ∷ []) ∙ ap (λ y. map view rs ++ y ∷ []) is ∙ put-none_found key entry (map view rs) (find-none_placed view (λ x. same_text (key x) (key entry)) rs by_key)

-- one is found where it has a place
pub placed-found : {X : Type 0} (p : X → Bool) (xs : List X) (d : X) → is_some (find p xs) ≡ is_some (position p xs)
placed-found p xs d = by (position p xs) refl
  where
    by : (o : Option ℕ) → position p xs ≡ o → is_some (find p xs) ≡ is_some o
    by None none = ap is_some (find-no_place p xs none)
    by (Some i) at = let there = position-Some p xs i d at in sym (any-find p xs) ∙ list_any_at p xs i d there.0 there.1

-- the entry of a place is the one that is found
pub find-placed : {X : Type 0} (p : X → Bool) (xs : List X) (i : ℕ) (x : X) → position p xs ≡ Some i → x ≡ get_or xs i x → find p xs ≡ Some x
find-placed p xs i x at there = ap (find p) (sym (map-id xs)) ∙ find-place (λ y. y) p xs i x at there
