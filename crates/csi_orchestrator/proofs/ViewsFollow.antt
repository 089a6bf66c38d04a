-- Why what an orchestrator shows can be kept up item by item.
use Rattle.csi_orchestrator.proofs.Words.{◌≡◌, ℕ, List, [], ◌∷◌, Bool, true, false, cond, refl, sym, ◌∙◌, ap}
use Rattle.csi_orchestrator.proofs.Words.{subst, inl, inr, arith, Option, Some, None, find, filter_map, ◌&&◌}
use Rattle.csi_orchestrator.proofs.Words.{cons_option, Call, Party, Number, IsAmong, same_text, same_number, Thing}
use Rattle.csi_orchestrator.proofs.Words.{Attached, Issued, name_in, same_thing, thing_at, is_thing, is_doing, touches}
use Rattle.csi_orchestrator.proofs.Words.{Item, Started, Lost, Forgotten, Sent, Closed, Noted, History, with_items}
use Rattle.csi_orchestrator.proofs.Words.{newest, issued_in, is_success_of, known_by, id_in, id_by, held_by_call}
use Rattle.csi_orchestrator.proofs.Words.{open_call, unless, last_number, since, ends, IsNextNumber, IsWellFormed}
use Rattle.csi_orchestrator.proofs.Words.{OrchestratorView, Agrees, after_started, after_lost, after_forgotten}
use Rattle.csi_orchestrator.proofs.Words.{after_sent, after_closed, after_noted, DetachesSomething}
use Rattle.csi_orchestrator.proofs.Lemmas.{false≢true, nat_tests, same_text-tells, same_number-tells}
use Rattle.csi_types.specs.declared.call.Call.TheVariants as calls
use Rattle.csi_orchestrator.specs.Model.History.{Goal}
use Rattle.csi_orchestrator.proofs.Numbers.{one-call, open-sent, fresh-silent}
use Rattle.csi_orchestrator.proofs.TextLists.{same_text-flip, any-with, any-without}

-- where two tests pass together, the left one does
left-true : (a b : Bool) → (a && b) ≡ true → a ≡ true
left-true true b e = refl
left-true false b e = e

-- a test together with one that fails fails
pub and-false : (b : Bool) → (b && false) ≡ false
and-false true = refl
and-false false = refl

-- things that are the same are of the same name
same_thing-name : (thing other : Thing) → same_thing thing other ≡ true → same_text (name_in thing) (name_in other) ≡ true
same_thing-name thing other e = grind (arith, left-true, false≢true)

-- the thing that a call of a name does or undoes is of that name
is_thing-name : (thing : Thing) (name : List ℕ) (party : Party) (call : Call) → is_thing thing (thing_at name party call) ≡ true → same_text (name_in thing) name ≡ true
is_thing-name thing name party call e = grind (arith, same_thing-name, false≢true)

-- a call of a thing is of its name
pub touches-name : (thing : Thing) (issued : Issued) → touches thing issued ≡ true → same_text issued.name (name_in thing) ≡ true
touches-name thing issued e = same_text-flip issued.name (name_in thing) ∙ is_thing-name thing issued.name issued.party issued.call e

-- the latest call that does or undoes a thing, since the thing was ended without one
abbrev pub latest : History → Thing → Option Issued
latest history thing = find (touches thing) (issued_in (since (ends thing) history.items))

-- an item that tells of no success changes no mark
pub known-quiet : (item : Item) (items : List Item) (thing : Thing) (o : Option Issued) → ((number : Number) → is_success_of number item ≡ false) → known_by (item ∷ items) thing o ≡ known_by items thing o
known-quiet item items thing None quiet = refl
known-quiet item items thing (Some issued) quiet = rw (quiet issued.number) refl

-- and no id
id-quiet : (item : Item) (items : List Item) (issued : Issued) (call : Call) → id_in issued.number item ≡ None → id_by (item ∷ items) issued call ≡ id_by items issued call
id-quiet item items issued (calls.CreateVolume name required limit capabilities) quiet = rw quiet refl
id-quiet item items issued call quiet = refl

-- an item that brings none of these calls an id leaves the ids that they brought
pub ids-quiet : (item : Item) (items : List Item) (sent : List Issued) → ((issued : Issued) → IsAmong issued sent → id_in issued.number item ≡ None)
    → filter_map (λ (issued : Issued). id_by (item ∷ items) issued issued.call) sent ≡ filter_map (λ (issued : Issued). id_by items issued issued.call) sent
ids-quiet item items [] quiet = refl
ids-quiet item items (issued ∷ others) quiet =
    ap (λ o. cons_option o (filter_map (λ (i : Issued). id_by (item ∷ items) i i.call) others)) (id-quiet item items issued issued.call (quiet issued (inl refl)))
    ∙ ap (cons_option (id_by items issued issued.call)) (ids-quiet item items others (λ i among. quiet i (inr among)))

-- no id was brought yet
pub no-id : (items : List Item) (issued : Issued) (call : Call) → filter_map (id_in issued.number) items ≡ [] → id_by items issued call ≡ None
no-id items issued (calls.CreateVolume name required limit capabilities) none = ap newest none
no-id items issued call none = refl

-- a session starts
pub started-follows : (view : OrchestratorView) (history : History) (session : ℕ) (nodes : List (List ℕ)) → Agrees view history → Agrees (after_started session nodes view) (with_items history (Started session nodes ∷ []))
started-follows view history session nodes agrees = grind (arith, ids-quiet, known-quiet)

-- a call that publishes nothing at the node, and yet is of its attachment, detaches
attach-held : (name node : List ℕ) (own : List ℕ) (party : Party) (call : Call) → is_thing (Attached name node) (thing_at own party call) ≡ true → held_by_call node call ≡ None → is_doing call ≡ false
attach-held name node own party call of none = grind (arith, false≢true, same_text-flip)

-- a call is sent
pub sent-follows : (view : OrchestratorView) (history : History) (issued : Issued) → IsWellFormed history → Agrees view history → IsNextNumber (last_number history) issued.number
    → DetachesSomething history issued → Agrees (after_sent issued view) (with_items history (Sent issued ∷ []))
sent-follows view history issued form agrees next detaches = grind (arith, fresh-silent, known-quiet, no-id, ids-quiet, same_text-tells, attach-held, false≢true, touches-name, nat_tests)

-- a number is the same as itself
pub number-same : (number : Number) → same_number number number ≡ true
number-same number = (same_number-tells number number).1 refl

-- the open call of a name is closed, and every other one stays open
pub unless-follows : (history : History) (issued : Issued) (name : List ℕ) → IsWellFormed history → open_call history issued.name ≡ Some issued
    → cond (same_text issued.name name) None (open_call history name) ≡ unless issued.number (open_call history name)
unless-follows history issued name form is_open = by (same_text issued.name name) refl
  where
    own : Some issued ≡ open_call history name → None ≡ unless issued.number (open_call history name)
    own e = subst (λ (o : Option Issued). None ≡ unless issued.number o) e (ap (λ b. cond b None (Some issued)) (sym (number-same issued.number)))

    -- another name's call has another number
    other : same_text issued.name name ≡ false → (o : Option Issued) → open_call history name ≡ o → o ≡ unless issued.number o
    other differs None e = refl
    other differs (Some call) e = by_number (same_number call.number issued.number) refl
      where
        by_number : (b : Bool) → same_number call.number issued.number ≡ b → Some call ≡ cond (same_number call.number issued.number) None (Some call)
        by_number true f =
            let theirs = open-sent name history.items call e in
            let ours = open-sent issued.name history.items issued is_open in
            let same : call ≡ issued = one-call history.began history.items call issued form theirs.0 ours.0 ((same_number-tells call.number issued.number).0 f) in
            absurd (false≢true (sym differs ∙ ap (λ (c : Issued). same_text c.name name) (sym same) ∙ theirs.1))
        by_number false f = ap (λ b. cond b None (Some call)) (sym f)

    by : (b : Bool) → same_text issued.name name ≡ b → cond b None (open_call history name) ≡ unless issued.number (open_call history name)
    by true e = own (sym is_open ∙ ap (open_call history) ((same_text-tells issued.name name).0 e))
    by false e = other e (open_call history name) refl

-- a call is given up
pub closed-follows : (view : OrchestratorView) (history : History) (issued : Issued) → IsWellFormed history → Agrees view history → open_call history issued.name ≡ Some issued
    → Agrees (after_closed issued view) (with_items history (Closed issued.number ∷ []))
closed-follows view history issued form agrees is_open = grind (arith, ids-quiet, unless-follows, known-quiet)

-- something is noted
pub noted-follows : (view : OrchestratorView) (history : History) (name : List ℕ) (goal : Option Goal) → Agrees view history → Agrees (after_noted name goal view) (with_items history (Noted name goal ∷ []))
noted-follows view history name goal agrees = grind (arith, ids-quiet, known-quiet, any-with, same_text-flip)

-- a node is lost
pub lost-follows : (view : OrchestratorView) (history : History) (node : List ℕ) → Agrees view history → Agrees (after_lost node view) (with_items history (Lost node ∷ []))
lost-follows view history node agrees = grind (arith, ids-quiet, known-quiet)

-- a name is forgotten
pub forgotten-follows : (view : OrchestratorView) (history : History) (name : List ℕ) → Agrees view history → Agrees (after_forgotten name view) (with_items history (Forgotten name ∷ []))
forgotten-follows view history name agrees = grind (arith, known-quiet, any-without, same_text-flip, ids-quiet)
