-- Where an entry stands that was put in by its text, and that all others are as they were.
use Rattle.csi_orchestrator.proofs.Words.{◌≡◌, ℕ, zero, suc, List, [], ◌∷◌, Bool, true, false, cond, length, take, drop}
use Rattle.csi_orchestrator.proofs.Words.{refl, sym, ◌∙◌, ap, subst, Some, None, find, EachTwo, IsAt, FirstAt}
use Rattle.csi_orchestrator.proofs.Words.{same_text, put_by, arith}
use Rattle.csi_orchestrator.proofs.Lemmas.{none-some, same_Some, each-at, find-missed, same_text-tells}
use Rattle.csi_orchestrator.proofs.TextLists.{text-same}

-- ---- the place of what is found

-- what a search finds is the first that passes, at some place
pub find-first : {X : Type 0} (p : X → Bool) (xs : List X) (x : X) → find p xs ≡ Some x → (place : ℕ) × FirstAt p xs place x
find-first p [] x e = absurd (none-some x e)
find-first p (y ∷ ys) x e = by (p y) refl (find-first p ys x) e
  where
    by : (b : Bool) → p y ≡ b → (find p ys ≡ Some x → (place : ℕ) × FirstAt p ys place x) → cond b (Some y) (find p ys) ≡ Some x → (place : ℕ) × FirstAt p (y ∷ ys) place x
    by true own rest f = (0, (own, same_Some y x f))
    by false own rest f = let there = rest f in (suc there.0, (own, there.1))

-- where each two texts differ, an entry is the first of its text
pub first-apart : {X : Type 0} (key : X → List ℕ) (xs : List X) (place : ℕ) (x : X) → EachTwo (λ a b. same_text (key a) (key b) ≡ false) xs → IsAt xs place x → FirstAt (λ y. same_text (key y) (key x)) xs place x
first-apart key [] place x apart at = absurd at
first-apart key (y ∷ ys) zero x apart at = ((same_text-tells (key y) (key x)).1 (ap key at), at)
first-apart key (y ∷ ys) (suc place) x apart at = (each-at (λ b. same_text (key y) (key b) ≡ false) ys place x apart.0 at, first-apart key ys place x apart.1 at)

-- ---- what is put in

-- it is the first of its text, all others are as they were, and if one stood there it had that text
pub record IsPutAt {X : Type 0} (key : X → List ℕ) (entry : X) (place : ℕ) (old new : List X) : Type 0 where
  pub first : FirstAt (λ y. same_text (key y) (key entry)) new place entry
  pub before : take place new ≡ take place old
  pub behind : drop (suc place) new ≡ drop (suc place) old
  pub named : (was : X) → IsAt old place was → key entry ≡ key was

-- in the place of the first of its text
pub put-at : {X : Type 0} (key : X → List ℕ) (entry : X) (xs : List X) (place : ℕ) (x : X) → FirstAt (λ y. same_text (key y) (key entry)) xs place x → IsPutAt key entry place xs (put_by key entry xs)
put-at key entry [] place x first = absurd first
put-at key entry (y ∷ ys) zero x first =
    subst (IsPutAt key entry 0 (y ∷ ys)) (sym (ap (λ b. cond b (entry ∷ ys) (y ∷ put_by key entry ys)) first.0))
    (record { first = (text-same (key entry), refl); before = refl; behind = refl; named = λ was at. sym ((same_text-tells (key y) (key entry)).0 first.0) ∙ ap key at })
put-at key entry (y ∷ ys) (suc place) x first = grind (arith, (put-at key entry ys place x first.1))

-- last, where there is none
pub put-last : {X : Type 0} (key : X → List ℕ) (entry : X) (xs : List X) → find (λ y. same_text (key y) (key entry)) xs ≡ None → IsPutAt key entry (length xs) xs (put_by key entry xs)
put-last key entry [] none = record { first = (text-same (key entry), refl); before = refl; behind = refl; named = λ was at. absurd at }
put-last key entry (y ∷ ys) none =
    let parts = find-missed (same_text (key y) (key entry)) y (find (λ z. same_text (key z) (key entry)) ys) none in
    let rest = put-last key entry ys parts.1 in
    subst (IsPutAt key entry (suc (length ys)) (y ∷ ys)) (sym (ap (λ b. cond b (entry ∷ ys) (y ∷ put_by key entry ys)) parts.0))
    (record { first = (parts.0, rest.first); before = ap (λ l. y ∷ l) rest.before; behind = rest.behind; named = rest.named })

-- the entry that is there, put in again, changes nothing
pub put-same : {X : Type 0} (key : X → List ℕ) (xs : List X) (place : ℕ) (x : X) → FirstAt (λ y. same_text (key y) (key x)) xs place x → put_by key x xs ≡ xs
put-same key [] place x first = absurd first
put-same key (y ∷ ys) zero x first = ap (λ b. cond b (x ∷ ys) (y ∷ put_by key x ys)) first.0 ∙ ap (λ z. z ∷ ys) (sym first.1)
put-same key (y ∷ ys) (suc place) x first = ap (λ b. cond b (x ∷ ys) (y ∷ put_by key x ys)) first.0 ∙ ap (λ l. y ∷ l) (put-same key ys place x first.1)
