-- The numbers of a well-formed history: each call has a later one than all calls before it, and a success is of a call that
-- was sent.
use Rattle.csi_orchestrator.proofs.Words.{◌≡◌, ◌⊎◌, ℕ, List, [], ◌∷◌, Bool, true, false, cond, refl, sym, ◌∙◌, ap}
use Rattle.csi_orchestrator.proofs.Words.{subst, inl, inr, arith, Option, Some, None, filter_map, Number, IsAmong}
use Rattle.csi_orchestrator.proofs.Words.{is_before, IsBefore, same_number, same_text, Issued, Item, Started}
use Rattle.csi_orchestrator.proofs.Words.{Sent, Accepted, Closed, issued_in, has_success, id_in}
use Rattle.csi_orchestrator.proofs.Words.{open_in, unless, last_in, AreWellFormed}
use Rattle.csi_orchestrator.proofs.Lemmas.{false_from_ne_true, nat_tests, same_Some, none-some, same_number-tells}
use Rattle.csi_types.proofs.Order.{before-from, before-trans}

-- the order of numbers is one as a test and as a relation, it passes on, and no number is before itself
is_before-then : (a b : Number) → IsBefore a b → is_before a b ≡ true
is_before-then a b h = rw h refl

-- a number that passes the test is before the other
is_before-from : (a b : Number) → is_before a b ≡ true → IsBefore a b
is_before-from a b h = grind (arith, nat_tests)

-- what is before a number is before all that come after it
then-before : (a b c : Number) → IsBefore a b → IsBefore b c → IsBefore a c
then-before a b c h k = is_before-from a c (before-trans a b c (is_before-then a b h) (is_before-then b c k))

-- no number is before itself
not-before-itself : (a : Number) → IsBefore a a → ⊥
not-before-itself a h = let t : is_before a a ≡ true = is_before-then a a h in grind (arith, nat_tests)

-- a number that is before another one isn't it
pub other-number : (a b : Number) → IsBefore a b → same_number a b ≡ false
other-number a b h = false_from_ne_true (same_number a b) (λ e. not-before-itself b (subst (λ n. IsBefore n b) ((same_number-tells a b).0 e) h))

-- the number is the other one, or before it, and goes on with one that comes after that
abbrev AtMost : Number → Number → Type 0
AtMost a b = (a ≡ b) ⊎ IsBefore a b

-- a number that is no later than one is before all that come after that one
most-before : (a b c : Number) → AtMost a b → IsBefore b c → IsBefore a c
most-before a b c (inl e) h = subst (λ n. IsBefore n c) (sym e) h
most-before a b c (inr k) h = then-before a b c k h

-- the number of each call that was sent is the last one, or before it
sent-most : (began : Number) (items : List Item) (call : Issued) → AreWellFormed began items → IsAmong call (issued_in items) → AtMost call.number (last_in began items)
sent-most began [] call form among = absurd among
sent-most began (Started session nodes ∷ older) call form among =
    let started : Number = record { session = session; call = 0 } in
    inr (most-before call.number (last_in began older) started (sent-most began older call form.1 among)
    (is_before-from (last_in began older) started (before-from (last_in began older) started (inl form.0))))
sent-most began (Sent issued ∷ older) call form (inl e) = inl (ap (λ (c : Issued). c.number) e)
sent-most began (Sent issued ∷ older) call form (inr there) =
    inr (most-before call.number (last_in began older) issued.number (sent-most began older call form.1 there) form.0.0.later)
sent-most began (item ∷ older) call form among = sent-most began older call form.1 among

-- a call that may be sent now has a later number than each sent before
pub sent-before : (began : Number) (items : List Item) (number : Number) (call : Issued) → AreWellFormed began items → IsBefore (last_in began items) number → IsAmong call (issued_in items) → IsBefore call.number number
sent-before began items number call form next among = most-before call.number (last_in began items) number (sent-most began items call form among) next

-- a number was given once
pub one-call : (began : Number) (items : List Item) (a b : Issued) → AreWellFormed began items → IsAmong a (issued_in items) → IsAmong b (issued_in items) → a.number ≡ b.number → a ≡ b
one-call began [] a b form at bt same = absurd at
one-call began (Sent issued ∷ older) a b form (inl e) (inl f) same = e ∙ sym f
one-call began (Sent issued ∷ older) a b form (inl e) (inr bt) same =
    absurd (not-before-itself b.number (subst (λ n. IsBefore b.number n) (sym (ap (λ (c : Issued). c.number) e) ∙ same) (sent-before began older issued.number b form.1 form.0.0.later bt)))
one-call began (Sent issued ∷ older) a b form (inr at) (inl f) same =
    absurd (not-before-itself a.number (subst (λ n. IsBefore a.number n) (sym (ap (λ (c : Issued). c.number) f) ∙ sym same) (sent-before began older issued.number a form.1 form.0.0.later at)))
one-call began (Sent issued ∷ older) a b form (inr at) (inr bt) same = one-call began older a b form.1 at bt same
one-call began (item ∷ older) a b form at bt same = one-call began older a b form.1 at bt same

-- the call, unless it is of that number
pub unless-some : (number : Number) (o : Option Issued) (call : Issued) → unless number o ≡ Some call → (o ≡ Some call) × (same_number call.number number ≡ false)
unless-some number o call e = grind (arith, none-some, same_Some)

-- an open call was sent, for that name
pub open-sent : (name : List ℕ) (items : List Item) (call : Issued) → open_in name items ≡ Some call → IsAmong call (issued_in items) × (same_text call.name name ≡ true)
open-sent name [] call e = absurd (none-some call e)
open-sent name (Started session nodes ∷ older) call e = absurd (none-some call e)
open-sent name (Sent issued ∷ older) call e = by (same_text issued.name name) refl e (open-sent name older call)
  where
    by : (t : Bool) → same_text issued.name name ≡ t → cond t (Some issued) (open_in name older) ≡ Some call
        → (open_in name older ≡ Some call → IsAmong call (issued_in older) × (same_text call.name name ≡ true)) → ((call ≡ issued) ⊎ IsAmong call (issued_in older)) × (same_text call.name name ≡ true)
    by true s f rest = let is : call ≡ issued = sym (same_Some issued call f) in (inl is, ap (λ (c : Issued). same_text c.name name) is ∙ s)
    by false s f rest = let there = rest f in (inr there.0, there.1)
open-sent name (Accepted number status id ∷ older) call e = open-sent name older call (unless-some number (open_in name older) call e).0
open-sent name (Closed number ∷ older) call e = open-sent name older call (unless-some number (open_in name older) call e).0
open-sent name (item ∷ older) call e = open-sent name older call e

-- a reply that was taken was to a call that was sent
success-sent : (began : Number) (items : List Item) (number : Number) → AreWellFormed began items → ((call : Issued) → IsAmong call (issued_in items) → same_number call.number number ≡ false)
    → (has_success items number ≡ false) × (filter_map (id_in number) items ≡ [])
success-sent began [] number form none = (refl, refl)
success-sent began (Started session nodes ∷ older) number form none = success-sent began older number form.1 none
success-sent began (Sent issued ∷ older) number form none = success-sent began older number form.1 (λ call among. none call (inr among))
success-sent began (Accepted other status id ∷ older) number form none =
    let call = form.0.issued in
    let there = open-sent form.0.name older call form.0.is_open in
    let differs : same_number other number ≡ false = ap (λ n. same_number n number) (sym form.0.has_number) ∙ none call there.0 in
    rw differs (success-sent began older number form.1 none)
success-sent began (item ∷ older) number form none = success-sent began older number form.1 none

-- of a number that is after all there is no success yet, and no id
pub fresh-silent : (began : Number) (items : List Item) (number : Number) → AreWellFormed began items → IsBefore (last_in began items) number
    → (has_success items number ≡ false) × (filter_map (id_in number) items ≡ [])
fresh-silent began items number form next = success-sent began items number form (λ call among. other-number call.number number (sent-before began items number call form next among))

-- nor is there of an open call's
pub open-silent : (began : Number) (items : List Item) (name : List ℕ) (call : Issued) → AreWellFormed began items → open_in name items ≡ Some call
    → (has_success items call.number ≡ false) × (filter_map (id_in call.number) items ≡ [])
open-silent began [] name call form e = (refl, refl)
open-silent began (Started session nodes ∷ older) name call form e = absurd (none-some call e)
open-silent began (Sent issued ∷ older) name call form e = by (same_text issued.name name) e (open-silent began older name call form.1)
  where
    by : (t : Bool) → cond t (Some issued) (open_in name older) ≡ Some call → (open_in name older ≡ Some call → (has_success older call.number ≡ false) × (filter_map (id_in call.number) older ≡ []))
        → (has_success older call.number ≡ false) × (filter_map (id_in call.number) older ≡ [])
    by true f rest = subst (λ (c : Issued). (has_success older c.number ≡ false) × (filter_map (id_in c.number) older ≡ [])) (same_Some issued call f) (fresh-silent began older issued.number form.1 form.0.0.later)
    by false f rest = rest f
open-silent began (Accepted number status id ∷ older) name call form e =
    let parts = unless-some number (open_in name older) call e in
    let differs : same_number number call.number ≡ false = flipped call.number number parts.1 in
    rw differs (open-silent began older name call form.1 parts.0)
  where
    flipped : (a b : Number) → same_number a b ≡ false → same_number b a ≡ false
    flipped a b h = grind (arith, nat_tests)
open-silent began (Closed number ∷ older) name call form e = open-silent began older name call form.1 (unless-some number (open_in name older) call e).0
open-silent began (item ∷ older) name call form e = open-silent began older name call form.1 e

-- of a session in which nothing was sent no call is open
pub unused-closed : (began : Number) (items : List Item) (name : List ℕ) → AreWellFormed began items → (last_in began items).call ≡ 0 → open_in name items ≡ None
unused-closed began [] name form unused = refl
unused-closed began (Started session nodes ∷ older) name form unused = refl
unused-closed began (Sent issued ∷ older) name form unused = grind (arith, is_before-then, nat_tests)
unused-closed began (Accepted number status id ∷ older) name form unused = ap (unless number) (unused-closed began older name form.1 unused)
unused-closed began (Closed number ∷ older) name form unused = ap (unless number) (unused-closed began older name form.1 unused)
unused-closed began (item ∷ older) name form unused = unused-closed began older name form.1 unused
