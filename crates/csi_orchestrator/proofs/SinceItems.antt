-- What is read of a history since an item that ends a thing or forgets a name: no open call is older.
use Rattle.csi_orchestrator.proofs.Words.{◌≡◌, ℕ, List, [], ◌∷◌, ◌++◌, Bool, true, false, cond, refl, sym, ◌∙◌, ap}
use Rattle.csi_orchestrator.proofs.Words.{subst, inl, inr, Option, Some, find, filter, IsAmong, Number, Status}
use Rattle.csi_orchestrator.proofs.Words.{same_text, Thing, Issued, Item, Started, Lost, Forgotten, Sent, Accepted}
use Rattle.csi_orchestrator.proofs.Words.{Closed, Noted, since, is_forgetting, ends, issued_by, issued_in, open_in}
use Rattle.csi_orchestrator.proofs.Words.{AreWellFormed, arith}
use Rattle.csi_orchestrator.proofs.Lemmas.{none-some, among-append, some-found, in_filter}
use Rattle.std.proofs.lemmas.List.Elements.{filter_map-append, filter-append}
use Rattle.csi_orchestrator.specs.Model.History.{Goal}
use Rattle.csi_orchestrator.proofs.Numbers.{unless-some, unused-closed}

-- only where a session begins
pub record IsBreak (p : Item → Bool) : Type 0 where
  pub sent : (issued : Issued) → p (Sent issued) ≡ false
  pub accepted : (number : Number) (status : Status) (id : Option ℕ) → p (Accepted number status id) ≡ false
  pub closed : (number : Number) → p (Closed number) ≡ false
  pub noted : (name : List ℕ) (goal : Option Goal) → p (Noted name goal) ≡ false

-- the loss that ends a thing, and the item that forgets a name
pub ends-break : (thing : Thing) → IsBreak (ends thing)
ends-break thing = record { sent = λ issued. refl; accepted = λ number status id. refl; closed = λ number. refl; noted = λ name goal. refl }

-- the item that forgets a name is one too
pub forgets-break : (name : List ℕ) → IsBreak (is_forgetting name)
forgets-break name = record { sent = λ issued. refl; accepted = λ number status id. refl; closed = λ number. refl; noted = λ other goal. refl }

-- what stands before it
pub split-since : (p : Item → Bool) (items : List Item) → (rest : List Item) × (items ≡ since p items ++ rest)
split-since p [] = ([], refl)
split-since p (item ∷ older) = let there = split-since p older in by (p item) there.0 there.1
  where
    by : (b : Bool) (rest : List Item) → older ≡ since p older ++ rest → (all : List Item) × ((item ∷ older) ≡ cond b [] (item ∷ since p older) ++ all)
    by true rest is = (item ∷ older, refl)
    by false rest is = (rest, ap (λ xs. item ∷ xs) is)

-- the calls that were sent
pub split-issued : (p : Item → Bool) (items : List Item) → (rest : List Issued) × (issued_in items ≡ issued_in (since p items) ++ rest)
split-issued p items = let there = split-since p items in (issued_in there.0, ap issued_in there.1 ∙ filter_map-append issued_by (since p items) there.0)

-- what was sent since then was sent
pub since-sent : (p : Item → Bool) (items : List Item) (call : Issued) → IsAmong call (issued_in (since p items)) → IsAmong call (issued_in items)
since-sent p items call among =
    let there = split-issued p items in
    subst (λ sent. IsAmong call sent) (sym there.1) (among-append (issued_in (since p items)) there.0 call among)

-- an open call was sent since then
pub open-since : (p : Item → Bool) → IsBreak p → (began : Number) (name : List ℕ) (items : List Item) (call : Issued) → AreWellFormed began items → open_in name items ≡ Some call → IsAmong call (issued_in (since p items))
open-since p breaks began name [] call form e = absurd (none-some call e)
open-since p breaks began name (Started session nodes ∷ older) call form e = absurd (none-some call e)
open-since p breaks began name (Lost node ∷ older) call form e = absurd (none-some call (sym (unused-closed began older name form.1 form.0) ∙ e))
open-since p breaks began name (Forgotten other ∷ older) call form e = absurd (none-some call (sym (unused-closed began older name form.1 form.0) ∙ e))
open-since p breaks began name (Sent issued ∷ older) call form e =
    subst (λ b. IsAmong call (issued_in (cond b [] (Sent issued ∷ since p older)))) (sym (breaks.sent issued)) (by (same_text issued.name name) e (open-since p breaks began name older call form.1))
  where
    by : (b : Bool) → cond b (Some issued) (open_in name older) ≡ Some call → (open_in name older ≡ Some call → IsAmong call (issued_in (since p older))) → IsAmong call (issued ∷ issued_in (since p older))
    by true f rest = inl (same call issued (sym f))
      where
        same : (a b : Issued) → Some a ≡ Some b → a ≡ b
        same a b h = cc
    by false f rest = inr (rest f)
open-since p breaks began name (Accepted number status id ∷ older) call form e =
    subst (λ b. IsAmong call (issued_in (cond b [] (Accepted number status id ∷ since p older)))) (sym (breaks.accepted number status id))
    (open-since p breaks began name older call form.1 (unless-some number (open_in name older) call e).0)
open-since p breaks began name (Closed number ∷ older) call form e =
    subst (λ b. IsAmong call (issued_in (cond b [] (Closed number ∷ since p older)))) (sym (breaks.closed number)) (open-since p breaks began name older call form.1 (unless-some number (open_in name older) call e).0)
open-since p breaks began name (Noted other goal ∷ older) call form e =
    subst (λ b. IsAmong call (issued_in (cond b [] (Noted other goal ∷ since p older)))) (sym (breaks.noted other goal)) (open-since p breaks began name older call form.1 e)

-- ---- the first of a list

-- what is first in a list, and in the part in front, is first there
first-in-front : {X : Type 0} (xs ys others : List X) (x y : X) → IsAmong y xs → xs ++ ys ≡ x ∷ others → (front : List X) × (xs ≡ x ∷ front) × (others ≡ front ++ ys)
first-in-front [] ys others x y among is = absurd among
first-in-front (z ∷ zs) ys others x y among is = grind arith

-- the same of what a list has
pub filter-in-front : {X : Type 0} (q : X → Bool) (all xs ys others : List X) (x y : X) → all ≡ xs ++ ys → IsAmong y xs → q y ≡ true → filter q all ≡ x ∷ others
    → (front : List X) × (filter q xs ≡ x ∷ front) × (others ≡ front ++ filter q ys)
filter-in-front q all xs ys others x y split among passes first =
    first-in-front (filter q xs) (filter q ys) others x y (in_filter q xs y among passes) (sym (filter-append q xs ys) ∙ ap (filter q) (sym split) ∙ first)

-- what is found in a list is found in the part in front, if something is found there
pub found-in-front : {X : Type 0} (q : X → Bool) (all xs ys : List X) (x y : X) → all ≡ xs ++ ys → IsAmong y xs → q y ≡ true → find q all ≡ Some x → find q xs ≡ Some x
found-in-front {X = X} q all xs ys x y split among passes found =
    let there = some-found q xs y among passes in
    there.1 ∙ sym (joined q xs ys there.0 there.1) ∙ ap (find q) (sym split) ∙ found
  where
    joined : (q : X → Bool) (xs ys : List X) (z : X) → find q xs ≡ Some z → find q (xs ++ ys) ≡ Some z
    joined q [] ys z e = absurd (none-some z e)
    joined q (w ∷ ws) ys z e = by (q w) e (joined q ws ys z)
      where
        by : (b : Bool) → cond b (Some w) (find q ws) ≡ Some z → (find q ws ≡ Some z → find q (ws ++ ys) ≡ Some z) → cond b (Some w) (find q (ws ++ ys)) ≡ Some z
        by true f rest = f
        by false f rest = rest f
