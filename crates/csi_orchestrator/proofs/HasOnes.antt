-- What holds of a list of which one is so, and each other one otherwise.
use Rattle.csi_orchestrator.proofs.Words.{◌≡◌, ℕ, List, [], ◌∷◌, ◌++◌, Bool, true, false, cond, map, refl, sym, ◌∙◌, ap}
use Rattle.csi_orchestrator.proofs.Words.{subst, inl, inr, Some, None, find, AllByRecursion, same_text, change_by}
use Rattle.csi_orchestrator.proofs.Words.{put_by, HasOne, arith}
use Rattle.csi_orchestrator.proofs.Lemmas.{none-some, same_Some, each-weaker, each-map, all_of, each_of}
use Rattle.csi_orchestrator.proofs.Lemmas.{same_text-tells}
use Rattle.csi_orchestrator.proofs.EntryRules.{HaveDistinctKeys}
use Rattle.csi_orchestrator.proofs.TextLists.{text-same, same_text-flip}

-- a search that passes its first finds it, and one that doesn't finds what it finds of the rest
first-found : {X : Type 0} (key : X → List ℕ) (text : List ℕ) (x : X) (xs : List X) → same_text (key x) text ≡ true → find (λ y. same_text (key y) text) (x ∷ xs) ≡ Some x
first-found key text x xs e = ap (λ b. cond b (Some x) (find (λ y. same_text (key y) text) xs)) e

-- a search that its first doesn't pass finds what it finds of the rest
later-found : {X : Type 0} (key : X → List ℕ) (text : List ℕ) (x : X) (xs : List X) → same_text (key x) text ≡ false → find (λ y. same_text (key y) text) (x ∷ xs) ≡ find (λ y. same_text (key y) text) xs
later-found key text x xs e = ap (λ b. cond b (Some x) (find (λ y. same_text (key y) text) xs)) e

-- the one is found
pub one-found : {X : Type 0} (key : X → List ℕ) (text : List ℕ) (P Q : X → Type 0) (xs : List X) → HasOne key text P Q xs → (x : X) × (find (λ y. same_text (key y) text) xs ≡ Some x) × P x
one-found key text P Q [] one = absurd one
one-found key text P Q (x ∷ xs) (inl here) = (x, first-found key text x xs here.0, here.1)
one-found key text P Q (x ∷ xs) (inr later) = let found = one-found key text P Q xs later.2 in (found.0, later-found key text x xs later.0 ∙ found.1, found.2)

-- it is changed
pub one-change : {X : Type 0} (key : X → List ℕ) (text : List ℕ) (change : X → X) (P Q R : X → Type 0) (xs : List X) → ((x : X) → key (change x) ≡ key x)
    → ((x : X) → find (λ y. same_text (key y) text) xs ≡ Some x → P x → R (change x)) → HasOne key text P Q xs → HasOne key text R Q (change_by key text change xs)
one-change key text change P Q R [] same turns one = absurd one
one-change key text change P Q R (x ∷ xs) same turns (inl here) =
    subst (λ b. HasOne key text R Q (cond b (change x ∷ xs) (x ∷ change_by key text change xs))) (sym here.0)
    (inl (ap (λ t. same_text t text) (same x) ∙ here.0, turns x (first-found key text x xs here.0) here.1, here.2))
one-change key text change P Q R (x ∷ xs) same turns (inr later) =
    subst (λ b. HasOne key text R Q (cond b (change x ∷ xs) (x ∷ change_by key text change xs))) (sym later.0)
    (inr (later.0, later.1, one-change key text change P Q R xs same (λ y found. turns y (later-found key text x xs later.0 ∙ found)) later.2))

-- what is found is so
pub one-is : {X : Type 0} (key : X → List ℕ) (text : List ℕ) (P Q : X → Type 0) (xs : List X) → HasOne key text P Q xs → (x : X) → find (λ y. same_text (key y) text) xs ≡ Some x → P x
one-is key text P Q xs one x found = let there = one-found key text P Q xs one in subst P (same_Some there.0 x (sym there.1 ∙ found)) there.2

-- a fact of it from another, and from its being found
pub one-with : {X : Type 0} (key : X → List ℕ) (text : List ℕ) (P Q R : X → Type 0) (xs : List X) → ((x : X) → find (λ y. same_text (key y) text) xs ≡ Some x → P x → R x) → HasOne key text P Q xs → HasOne key text R Q xs
one-with key text P Q R [] f one = absurd one
one-with key text P Q R (x ∷ xs) f (inl here) = inl (here.0, f x (first-found key text x xs here.0) here.1, here.2)
one-with key text P Q R (x ∷ xs) f (inr later) = inr (later.0, later.1, one-with key text P Q R xs (λ y found. f y (later-found key text x xs later.0 ∙ found)) later.2)

-- from another alone
pub one-weaker : {X : Type 0} (key : X → List ℕ) (text : List ℕ) (P Q R : X → Type 0) (xs : List X) → ((x : X) → P x → R x) → HasOne key text P Q xs → HasOne key text R Q xs
one-weaker key text P Q R xs f one = one-with key text P Q R xs (λ x found. f x) one

-- a fact of each, of it and of the others
pub one-each : {X : Type 0} (key : X → List ℕ) (text : List ℕ) (P Q R : X → Type 0) (xs : List X) → ((x : X) → find (λ y. same_text (key y) text) xs ≡ Some x → P x → R x) → ((x : X) → Q x → R x)
    → HasOne key text P Q xs → AllByRecursion R xs
one-each key text P Q R [] f g one = absurd one
one-each key text P Q R (x ∷ xs) f g (inl here) =
    (f x (first-found key text x xs here.0) here.1, each-weaker (λ y. (same_text (key y) text ≡ false) × Q y) R xs (λ y own. g y own.1) here.2)
one-each key text P Q R (x ∷ xs) f g (inr later) = (g x later.1, one-each key text P Q R xs (λ y found. f y (later-found key text x xs later.0 ∙ found)) g later.2)

-- those apart from one of a text are of other texts
pub others-of : {X : Type 0} (key : X → List ℕ) (text : List ℕ) (Q : X → Type 0) (x : X) (xs : List X) → same_text (key x) text ≡ true → AllByRecursion (λ y. same_text (key x) (key y) ≡ false) xs → AllByRecursion Q xs
    → AllByRecursion (λ y. (same_text (key y) text ≡ false) × Q y) xs
others-of key text Q x xs e apart all = grind (arith, all_of, same_text-flip, same_text-tells, each_of)

-- of entries that are all otherwise, the one that is found is so too
pub one-of : {X : Type 0} (key : X → List ℕ) (text : List ℕ) (P Q : X → Type 0) (x : X) (xs : List X) → HaveDistinctKeys key xs → AllByRecursion Q xs → find (λ y. same_text (key y) text) xs ≡ Some x → P x → HasOne key text P Q xs
one-of key text P Q x [] apart all found own = absurd (none-some x found)
one-of key text P Q x (y ∷ ys) apart all found own = by (same_text (key y) text) refl found (λ f. one-of key text P Q x ys apart.1 all.1 f own)
  where
    by : (b : Bool) → same_text (key y) text ≡ b → cond b (Some y) (find (λ z. same_text (key z) text) ys) ≡ Some x → (find (λ z. same_text (key z) text) ys ≡ Some x → HasOne key text P Q ys) → HasOne key text P Q (y ∷ ys)
    by true e f rest = inl (e, subst P (sym (same_Some y x f)) own, others-of key text Q y ys e apart.0 all.1)
    by false e f rest = inr (e, all.0, rest f)

-- where none is found, one that comes last is so
pub one-last : {X : Type 0} (key : X → List ℕ) (text : List ℕ) (P Q : X → Type 0) (x : X) (xs : List X) → AllByRecursion Q xs → find (λ y. same_text (key y) text) xs ≡ None → same_text (key x) text ≡ true → P x
    → HasOne key text P Q (xs ++ x ∷ [])
one-last key text P Q x [] all none e own = inl (e, own, tt)
one-last key text P Q x (y ∷ ys) all none e own = by (same_text (key y) text) refl none (λ g. one-last key text P Q x ys all.1 g e own)
  where
    by : (b : Bool) → same_text (key y) text ≡ b → cond b (Some y) (find (λ z. same_text (key z) text) ys) ≡ None → (find (λ z. same_text (key z) text) ys ≡ None → HasOne key text P Q (ys ++ x ∷ [])) → HasOne key text P Q (y ∷ (ys ++ x ∷ []))
    by true f g rest = absurd (none-some y (sym g))
    by false f g rest = inr (f, all.0, rest g)

-- one that is put in is so
pub one-put : {X : Type 0} (key : X → List ℕ) (P Q : X → Type 0) (x : X) (xs : List X) → HaveDistinctKeys key xs → AllByRecursion Q xs → P x → HasOne key (key x) P Q (put_by key x xs)
one-put key P Q x [] apart all own = inl (text-same (key x), own, tt)
one-put key P Q x (y ∷ ys) apart all own = grind (arith, text-same, others-of, (one-put key P Q x ys apart.1 all.1 own))

-- each is changed so that its text stays
pub one-map : {X : Type 0} (key : X → List ℕ) (text : List ℕ) (f : X → X) (P Q R : X → Type 0) (xs : List X) → ((x : X) → key (f x) ≡ key x) → ((x : X) → same_text (key x) text ≡ true → P x → R (f x))
    → ((x : X) → Q x → Q (f x)) → HasOne key text P Q xs → HasOne key text R Q (map f xs)
one-map key text f P Q R [] same turns stays one = absurd one
one-map key text f P Q R (x ∷ xs) same turns stays (inl here) = inl (
  ap (λ t. same_text t text) (same x) ∙ here.0,
  turns x here.0 here.1,
  each-map (λ y. (same_text (key y) text ≡ false) × Q y) (λ y. (same_text (key y) text ≡ false) × Q y) f xs (λ y own. (ap (λ t. same_text t text) (same y) ∙ own.0, stays y own.1)) here.2,
)
one-map key text f P Q R (x ∷ xs) same turns stays (inr later) = inr (ap (λ t. same_text t text) (same x) ∙ later.0, stays x later.1, one-map key text f P Q R xs same turns stays later.2)
