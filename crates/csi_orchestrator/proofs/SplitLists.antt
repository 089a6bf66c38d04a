-- Searches and changes in a list at one of its entries, and what holds of the parts of a list.
use Rattle.csi_orchestrator.proofs.Words.{◌≡◌, ℕ, List, [], ◌∷◌, ◌++◌, Bool, false, cond, refl, ◌∙◌, ap, Some, None}
use Rattle.csi_orchestrator.proofs.Words.{find, ◌||◌, AllByRecursion, list_any, EachTwo, same_text, put_by}
use Rattle.csi_orchestrator.proofs.Lemmas.{find-missed}

-- ---- searches and changes

-- what none in front passes is looked for behind
pub find-behind : {X : Type 0} (p : X → Bool) (front rest : List X) → find p front ≡ None → find p (front ++ rest) ≡ find p rest
find-behind p [] rest none = refl
find-behind p (x ∷ front) rest none =
    let parts = find-missed (p x) x (find p front) none in
    ap (λ b. cond b (Some x) (find p (front ++ rest))) parts.0 ∙ find-behind p front rest parts.1

-- none is found where each fails
pub find-of_none : {X : Type 0} (p : X → Bool) (xs : List X) → AllByRecursion (λ x. p x ≡ false) xs → find p xs ≡ None
find-of_none p [] all = refl
find-of_none p (x ∷ xs) all = ap (λ b. cond b (Some x) (find p xs)) all.0 ∙ find-of_none p xs all.1

-- nor passes any
pub any-of_none : {X : Type 0} (p : X → Bool) (xs : List X) → AllByRecursion (λ x. p x ≡ false) xs → list_any p xs ≡ false
any-of_none p [] all = refl
any-of_none p (x ∷ xs) all = ap (λ b. b || list_any p xs) all.0 ∙ any-of_none p xs all.1

-- an entry of a text that none has comes last
pub put-last : {X : Type 0} (key : X → List ℕ) (entry : X) (front : List X) → find (λ x. same_text (key x) (key entry)) front ≡ None → put_by key entry front ≡ front ++ entry ∷ []
put-last key entry [] none = refl
put-last key entry (y ∷ front) none =
    let parts = find-missed (same_text (key y) (key entry)) y (find (λ x. same_text (key x) (key entry)) front) none in
    ap (λ b. cond b (entry ∷ front) (y ∷ put_by key entry front)) parts.0 ∙ ap (λ ys. y ∷ ys) (put-last key entry front parts.1)

-- ---- parts of a list

-- what holds of each holds of each in front, and of each behind
pub each-left : {X : Type 0} (P : X → Type 0) (xs ys : List X) → AllByRecursion P (xs ++ ys) → AllByRecursion P xs
each-left P [] ys all = tt
each-left P (x ∷ xs) ys all = (all.0, each-left P xs ys all.1)

-- behind
pub each-right : {X : Type 0} (P : X → Type 0) (xs ys : List X) → AllByRecursion P (xs ++ ys) → AllByRecursion P ys
each-right P [] ys all = all
each-right P (x ∷ xs) ys all = each-right P xs ys all.1

-- what holds of any two holds of any two in front
pub two-left : {X : Type 0} (R : X → X → Type 0) (xs ys : List X) → EachTwo R (xs ++ ys) → EachTwo R xs
two-left R [] ys two = tt
two-left R (x ∷ xs) ys two = (each-left (R x) xs ys two.0, two-left R xs ys two.1)

-- each in front stands so to one, and it to each behind
pub two-there : {X : Type 0} (R : X → X → Type 0) (front : List X) (x : X) (rear : List X) → EachTwo R (front ++ x ∷ rear) → AllByRecursion (λ y. R y x) front × AllByRecursion (R x) rear
two-there R [] x rear two = (tt, two.0)
two-there R (y ∷ front) x rear two =
    let rest = two-there R front x rear two.1 in
    (((each-right (R y) front (x ∷ rear) two.0).0, rest.0), rest.1)
