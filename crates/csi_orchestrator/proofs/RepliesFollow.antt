-- Why what an orchestrator shows follows a reply that it takes.
use Rattle.csi_orchestrator.proofs.Words.{◌≡◌, ◌≢◌, ℕ, List, [], ◌∷◌, Bool, true, false, cond, refl, sym, ◌∙◌, ap}
use Rattle.csi_orchestrator.proofs.Words.{subst, Option, Some, None, min, find, filter, filter_map, ◌&&◌, cons_option}
use Rattle.csi_orchestrator.proofs.Words.{option_or, Call, Number, Status, IsAmong, is_ok_status, same_text}
use Rattle.csi_orchestrator.proofs.Words.{same_number, Thing, Attached, No, Maybe, Issued, name_in, touches, Item}
use Rattle.csi_orchestrator.proofs.Words.{Started, Lost, Forgotten, Sent, Accepted, Closed, Noted, History, with_items}
use Rattle.csi_orchestrator.proofs.Words.{newest, since, is_forgetting, lifetime, ends, issued_in, issued_since}
use Rattle.csi_orchestrator.proofs.Words.{has_success, known_by, known, id_in, id_by, id_of, open_in, open_call}
use Rattle.csi_orchestrator.proofs.Words.{is_number_of, calls_since, AreWellFormed, IsWellFormed, OrchestratorView}
use Rattle.csi_orchestrator.proofs.Words.{Agrees, after_accepted, known_by_success, id_brought, arith}
use Rattle.csi_orchestrator.proofs.Lemmas.{false≢true, false_from_ne_true, among-find, among-kept, among-append}
use Rattle.csi_orchestrator.proofs.Lemmas.{find-passes, find-filter, alike, then-any, any-none, same_Some, none-some}
use Rattle.csi_orchestrator.proofs.Lemmas.{same_text-tells, same_number-tells}
use Rattle.csi_orchestrator.proofs.Numbers.{other-number, sent-before, one-call, unless-some, open-sent, open-silent, unused-closed}
use Rattle.csi_orchestrator.proofs.SinceItems.{ends-break, forgets-break, split-issued, since-sent, open-since, filter-in-front, found-in-front}
use Rattle.csi_orchestrator.proofs.ViewsFollow.{touches-name, latest, known-quiet, ids-quiet, no-id, number-same, unless-follows, and-false}

-- the newest of a list that may have one more in front is that one, or else the list's own
newest-cons : {X : Type 0} (o : Option X) (xs : List X) → newest (cons_option o xs) ≡ option_or o (newest xs)
newest-cons None xs = refl
newest-cons (Some x) xs = refl

-- numbers are compared alike from both sides
same_number-flip : (a b : Number) → same_number a b ≡ same_number b a
same_number-flip a b = alike (same_number a b) (same_number b a) (λ e. (same_number-tells b a).1 (sym ((same_number-tells a b).0 e))) (λ e. (same_number-tells a b).1 (sym ((same_number-tells b a).0 e)))

-- the open call is the latest of its name
record IsLatest (sent : List Issued) (call : Issued) : Type 0 where
  others : List Issued
  first : sent ≡ call ∷ others
  numbers : (other : Issued) → IsAmong other others → same_number call.number other.number ≡ false

-- in a well-formed history the open call of a name is its latest one, and no earlier call has its number
open-latest : (began : Number) (name : List ℕ) (items : List Item) (call : Issued) → AreWellFormed began items → open_in name items ≡ Some call → IsLatest (filter (λ (i : Issued). same_text i.name name) (issued_in items)) call
open-latest began name [] call form e = absurd (none-some call e)
open-latest began name (Started session nodes ∷ older) call form e = absurd (none-some call e)
open-latest began name (Lost node ∷ older) call form e = absurd (none-some call (sym (unused-closed began older name form.1 form.0) ∙ e))
open-latest began name (Forgotten other ∷ older) call form e = absurd (none-some call (sym (unused-closed began older name form.1 form.0) ∙ e))
open-latest began name (Sent issued ∷ older) call form e =
    let parts = by (same_text issued.name name) e (open-latest began name older call form.1) in
    record { others = parts.0; first = parts.1; numbers = parts.2 }
  where
    differs : (other : Issued) → IsAmong other (filter (λ (i : Issued). same_text i.name name) (issued_in older)) → same_number issued.number other.number ≡ false
    differs other among =
        same_number-flip issued.number other.number
        ∙ other-number other.number issued.number (sent-before began older issued.number other form.1 form.0.0.later (among-kept (λ (i : Issued). same_text i.name name) (issued_in older) other among).0)

    by : (b : Bool) → cond b (Some issued) (open_in name older) ≡ Some call → (open_in name older ≡ Some call → IsLatest (filter (λ (i : Issued). same_text i.name name) (issued_in older)) call)
        → (others : List Issued) × (cond b (issued ∷ filter (λ (i : Issued). same_text i.name name) (issued_in older)) (filter (λ (i : Issued). same_text i.name name) (issued_in older)) ≡ call ∷ others)
        × ((other : Issued) → IsAmong other others → same_number call.number other.number ≡ false)
    by true f rest =
        let is : issued ≡ call = same_Some issued call f in (
          filter (λ (i : Issued). same_text i.name name) (issued_in older),
          ap (λ (c : Issued). c ∷ filter (λ (i : Issued). same_text i.name name) (issued_in older)) is,
          λ other among. ap (λ (c : Issued). same_number c.number other.number) (sym is) ∙ differs other among,
        )
    by false f rest = let latest = rest f in (latest.others, latest.first, latest.numbers)
open-latest began name (Accepted number status id ∷ older) call form e = let latest = open-latest began name older call form.1 (unless-some number (open_in name older) call e).0 in record { others = latest.others; first = latest.first; numbers = latest.numbers }
open-latest began name (Closed number ∷ older) call form e = let latest = open-latest began name older call form.1 (unless-some number (open_in name older) call e).0 in record { others = latest.others; first = latest.first; numbers = latest.numbers }
open-latest began name (Noted other goal ∷ older) call form e = let latest = open-latest began name older call form.1 e in record { others = latest.others; first = latest.first; numbers = latest.numbers }

-- so it is since the name was last forgotten
latest-since : (began : Number) (name : List ℕ) (items : List Item) (call : Issued) → AreWellFormed began items → open_in name items ≡ Some call → IsLatest (filter (λ (i : Issued). same_text i.name name) (issued_in (lifetime name items))) call
latest-since began name items call form e =
    let whole = open-latest began name items call form e in
    let split = split-issued (is_forgetting name) items in
    let front = filter-in-front (λ (i : Issued). same_text i.name name) (issued_in items) (issued_in (lifetime name items)) split.0 whole.others call call split.1
    (open-since (is_forgetting name) (forgets-break name) began name items call form e) (open-sent name items call e).1 whole.first in
    record {
      others = front.0;
      first = front.1;
      numbers = λ other among. whole.numbers other (subst (λ xs. IsAmong other xs) (sym front.2) (among-append front.0 (filter (λ (i : Issued). same_text i.name name) split.0) other among));
    }

-- the open call is the latest of each thing that it touches
latest-touching : (began : Number) (name : List ℕ) (items : List Item) (call : Issued) (thing : Thing) → AreWellFormed began items → open_in name items ≡ Some call → touches thing call ≡ true
    → find (touches thing) (issued_in (since (ends thing) items)) ≡ Some call
latest-touching began name items call thing form e of =
    let latest = open-latest began name items call form e in
    let split = split-issued (ends thing) items in
    found-in-front (touches thing) (issued_in items) (issued_in (since (ends thing) items)) split.0 call call split.1 (open-since (ends thing) (ends-break thing) began name items call form e) of (
    sym (find-filter (touches thing) (λ (i : Issued). same_text i.name name) (issued_in items) (λ i its. subst (λ n. same_text i.name n ≡ true) own (touches-name thing i its)))
    ∙ ap (find (touches thing)) latest.first ∙ ap (λ b. cond b (Some call) (find (touches thing) latest.others)) of)
  where
    own : name_in thing ≡ name
    own = sym ((same_text-tells call.name (name_in thing)).0 (touches-name thing call of)) ∙ (same_text-tells call.name name).0 (open-sent name items call e).1

-- the id that a success brings
id-brought : (items : List Item) (issued : Issued) (call : Call) (status : Status) (id : Option ℕ) → is_ok_status status ≡ true → filter_map (id_in issued.number) items ≡ []
    → id_by (Accepted issued.number status id ∷ items) issued call ≡ id_brought call id
id-brought items issued call status id fine none = grind (arith, number-same)

-- a reply is taken
pub accepted-follows : (view : OrchestratorView) (history : History) (issued : Issued) (status : Status) (id : Option ℕ) → IsWellFormed history → Agrees view history → open_call history issued.name ≡ Some issued
    → Agrees (after_accepted issued status id view) (with_items history (Accepted issued.number status id ∷ []))
accepted-follows view history issued status id form agrees is_open =
    record {
      same_nodes = agrees.same_nodes;
      same_last = agrees.same_last;
      same_rows = agrees.same_rows;
      same_marks = λ thing. mark thing (is_ok_status status) refl (touches thing issued) refl;
      same_ids = λ name. an_id name (is_ok_status status) refl (same_text issued.name name) refl;
      same_goals = agrees.same_goals;
      same_arguments = agrees.same_arguments;
      same_holdings = λ name node there. agrees.same_holdings name node (was_there name node there (is_ok_status status) refl (touches (Attached name node) issued) refl);
      same_open_calls = λ name. ap (λ o. cond (same_text issued.name name) None o) (agrees.same_open_calls name) ∙ unless-follows history issued name form is_open;
      same_counts = λ name. count (is_ok_status status && same_text issued.name name) (view.counts name) (calls_since name history.items) (agrees.same_counts name)
          ∙ ap (λ b. min 3 (cond (is_ok_status status && b) 0 (calls_since name history.items))) (sym (own_number name (same_text issued.name name) refl));
    }
  where
    sent : IsAmong issued (issued_in history.items)
    sent = (open-sent issued.name history.items issued is_open).0

    silent : (has_success history.items issued.number ≡ false) × (filter_map (id_in issued.number) history.items ≡ [])
    silent = open-silent history.began history.items issued.name issued form is_open

    -- another call has another number
    differs : (call : Issued) → IsAmong call (issued_in history.items) → ((call ≡ issued) → ⊥) → same_number issued.number call.number ≡ false
    differs call among other =
        false_from_ne_true _ (λ e. other (one-call history.began history.items call issued form among sent (sym ((same_number-tells issued.number call.number).0 e))))

    -- a mark that the reply doesn't tell of
    untold : (thing : Thing) (o : Option Issued) → latest history thing ≡ o → touches thing issued ≡ false → known_by (Accepted issued.number status id ∷ history.items) thing o ≡ known_by history.items thing o
    untold thing None e of = refl
    untold thing (Some call) e of =
        let among = since-sent (ends thing) history.items call (among-find (touches thing) (issued_in (since (ends thing) history.items)) call e) in
        let touched : touches thing call ≡ true = find-passes (touches thing) (issued_in (since (ends thing) history.items)) call e in
        let other : (call ≡ issued) → ⊥ = λ is. false≢true (sym of ∙ ap (touches thing) (sym is) ∙ touched) in
        rw (differs call among other) refl

    tells : (thing : Thing) → is_ok_status status ≡ true → touches thing issued ≡ true → known_by (Accepted issued.number status id ∷ history.items) thing (Some issued) ≡ known_by_success issued.call
    tells thing fine of = rw (number-same issued.number, fine, of) refl

    refused : (thing : Thing) → is_ok_status status ≡ false → known (with_items history (Accepted issued.number status id ∷ [])) thing ≡ known history thing
    refused thing not_fine = known-quiet (Accepted issued.number status id) history.items thing (latest history thing) (λ number. ap (λ b. same_number issued.number number && b) not_fine ∙ and-false (same_number issued.number number))

    mark : (thing : Thing) (fine : Bool) → is_ok_status status ≡ fine → (of : Bool) → touches thing issued ≡ of → cond (fine && of) (known_by_success issued.call) (view.marks thing) ≡ known (with_items history (Accepted issued.number status id ∷ [])) thing
    mark thing true e true f =
        sym (ap (known_by (Accepted issued.number status id ∷ history.items) thing) (latest-touching history.began issued.name history.items issued thing form is_open f) ∙ tells thing e f)
    mark thing true e false f = agrees.same_marks thing ∙ sym (untold thing (latest history thing) refl f)
    mark thing false e of f = agrees.same_marks thing ∙ sym (refused thing e)

    was_there : (name node : List ℕ) → known (with_items history (Accepted issued.number status id ∷ [])) (Attached name node) ≢ No → (fine : Bool) → is_ok_status status ≡ fine → (of : Bool) → touches (Attached name node) issued ≡ of
        → known history (Attached name node) ≢ No
    was_there name node there true e true f =
        λ was. maybe_not_no (sym (ap (known_by history.items (Attached name node)) (latest-touching history.began issued.name history.items issued (Attached name node) form is_open f) ∙ unheard (Attached name node)) ∙ was)
      where
        maybe_not_no : Maybe ≡ No → ⊥
        maybe_not_no h = cc

        unheard : (thing : Thing) → known_by history.items thing (Some issued) ≡ Maybe
        unheard thing = rw (silent.0) refl
    was_there name node there true e false f = λ was. there (untold (Attached name node) (latest history (Attached name node)) refl f ∙ was)
    was_there name node there false e of f = λ was. there (refused (Attached name node) e ∙ was)

    own_number : (name : List ℕ) (b : Bool) → same_text issued.name name ≡ b → is_number_of name history.items issued.number ≡ b
    own_number name true e = then-any (λ (i : Issued). same_text i.name name && same_number i.number issued.number) (issued_in history.items) issued sent (ap (λ b. b && same_number issued.number issued.number) e ∙ number-same issued.number)
    own_number name false e = any-none (λ (i : Issued). same_text i.name name && same_number i.number issued.number) (issued_in history.items) (λ call among. by call among (same_text call.name name) refl)
      where
        by : (call : Issued) → IsAmong call (issued_in history.items) → (b : Bool) → same_text call.name name ≡ b → (b && same_number call.number issued.number) ≡ false
        by call among true f = same_number-flip call.number issued.number ∙ differs call among (λ is. false≢true (sym e ∙ ap (λ (c : Issued). same_text c.name name) (sym is) ∙ f))
        by call among false f = refl

    an_id : (name : List ℕ) (fine : Bool) → is_ok_status status ≡ fine → (own : Bool) → same_text issued.name name ≡ own
        → cond (fine && own) (option_or (id_brought issued.call id) (view.ids name)) (view.ids name) ≡ id_of (with_items history (Accepted issued.number status id ∷ [])) name
    an_id name true e true f =
        ap (option_or (id_brought issued.call id)) (agrees.same_ids name ∙ before) ∙ sym after
      where
        first : IsLatest (issued_since history name) issued
        first = latest-since history.began name history.items issued form (subst (λ n. open_in n history.items ≡ Some issued) ((same_text-tells issued.name name).0 f) is_open)

        rest : List ℕ
        rest = filter_map (λ (i : Issued). id_by history.items i i.call) first.others

        before : id_of history name ≡ newest rest
        before =
            ap (λ (sent : List Issued). newest (filter_map (λ (i : Issued). id_by history.items i i.call) sent)) first.first
            ∙ ap (λ o. newest (cons_option o rest)) (no-id history.items issued issued.call (silent.1))

        after : id_of (with_items history (Accepted issued.number status id ∷ [])) name ≡ option_or (id_brought issued.call id) (newest rest)
        after =
            ap (λ (sent : List Issued). newest (filter_map (λ (i : Issued). id_by (Accepted issued.number status id ∷ history.items) i i.call) sent)) first.first
            ∙ ap (λ o. newest (cons_option o (filter_map (λ (i : Issued). id_by (Accepted issued.number status id ∷ history.items) i i.call) first.others))) (id-brought history.items issued issued.call status id e (silent.1))
            ∙ ap (λ xs. newest (cons_option (id_brought issued.call id) xs)) (ids-quiet (Accepted issued.number status id) history.items first.others
            (λ other among. ap (λ b. cond (b && is_ok_status status) id None) (first.numbers other among)))
            ∙ newest-cons (id_brought issued.call id) rest
    an_id name true e false f =
        agrees.same_ids name ∙ sym (ap newest (ids-quiet (Accepted issued.number status id) history.items (issued_since history name)
        (λ other among. let there = among-kept (λ (i : Issued). same_text i.name name) (issued_in (lifetime name history.items)) other among in
        ap (λ b. cond (b && is_ok_status status) id None) (differs other (since-sent (is_forgetting name) history.items other there.0) (λ is. false≢true (sym f ∙ ap (λ (c : Issued). same_text c.name name) (sym is) ∙ there.1))))))
    an_id name false e own f =
        agrees.same_ids name ∙ sym (ap newest (ids-quiet (Accepted issued.number status id) history.items (issued_since history name)
        (λ other among. ap (λ b. cond (same_number issued.number other.number && b) id None) e ∙ ap (λ b. cond b id None) (and-false (same_number issued.number other.number)))))

    count : (b : Bool) (k n : ℕ) → k ≡ min 3 n → cond b 0 k ≡ min 3 (cond b 0 n)
    count true k n e = refl
    count false k n e = e
