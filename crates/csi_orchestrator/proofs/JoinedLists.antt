-- What is among lists that are joined, among a list in another order, and any two of these.
use Rattle.csi_orchestrator.proofs.Words.{◌≡◌, ℕ, List, [], ◌∷◌, false, cond, refl, sym, ◌∙◌, ap, inl, inr, Some, find}
use Rattle.csi_orchestrator.proofs.Words.{IsAmong, EachTwo, same_text}
use Rattle.csi_orchestrator.proofs.Lemmas.{each_of, same_text-tells}

-- ---- lists that are joined

-- ---- a list for each

-- ---- by places

-- ---- in another order

-- ---- entries with texts

-- the entry of a text is found by it
pub own-entry : {X : Type 0} (key : X → List ℕ) (xs : List X) (x : X) → EachTwo (λ a b. same_text (key a) (key b) ≡ false) xs → IsAmong x xs → find (λ y. same_text (key y) (key x)) xs ≡ Some x
own-entry key [] x apart among = absurd among
own-entry key (first ∷ others) x apart (inl is) =
    ap (λ b. cond b (Some first) (find (λ y. same_text (key y) (key x)) others)) (ap (λ y. same_text (key first) (key y)) is ∙ (same_text-tells (key first) (key first)).1 refl) ∙ ap Some (sym is)
own-entry key (first ∷ others) x apart (inr there) =
    ap (λ b. cond b (Some first) (find (λ y. same_text (key y) (key x)) others)) (each_of (λ y. same_text (key first) (key y) ≡ false) others x apart.0 there) ∙ own-entry key others x apart.1 there
