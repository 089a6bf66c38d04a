-- Of which volume it is told that a reply was taken.
use Rattle.std.proofs.Common.{◌≡◌, ◌∙◌, ◌⊎◌, inl, inr, sym, ap, subst, refl, ℕ, zero, suc, ◌+◌, ◌<◌, List, [], ◌∷◌, ◌++◌, length, take, drop, append_assoc, Bool, true, false, cond, arith}
use Rattle.std.specs.Prelude.{Option, Some, None, option_map, option_and_then, slice_get, position, find, nat_lt, ◌&&◌, Result, Ok, Err}
use Rattle.std.specs.List.{position_or_len}
use Rattle.std.proofs.lemmas.Bool.{false≢true}
use Rattle.std.proofs.lemmas.Bool.Decides.{nat_tests}
use Rattle.std.proofs.lemmas.Option.{slice_get_cases, cond_some, none-some, same_Some}
use Rattle.csi_types.specs.Model.Members.{IsAmong, EachTwo}
use Rattle.csi_types.specs.Public.Places.{IsAt}
use Rattle.csi_types.proofs.Members.{among-find, some-found}
use Rattle.csi_types.proofs.Places.{FirstAt-find, FirstAt-position}
use Rattle.csi_types.proofs.Searches.{find-passes, find-no_place}
use Rattle.csi_types.specs.declared.call.Call.{Call}
use Rattle.csi_types.specs.declared.call.Call.TheVariants as calls
use Rattle.csi_types.specs.declared.call.Kind.{Kind}
use Rattle.csi_types.specs.declared.call.Party.{Party}
use Rattle.csi_types.specs.declared.frame.Body.{Body}
use Rattle.csi_types.specs.declared.frame.Body.TheVariants as bodies
use Rattle.csi_types.specs.declared.number.Number.{Number}
use Rattle.csi_types.specs.declared.reply.Reply.{Reply}
use Rattle.csi_types.specs.declared.status.Status.{Status}
use Rattle.csi_types.specs.Model.Call.{kind_of}
use Rattle.csi_types.specs.Model.Frame.{Frame}
use Rattle.csi_types.specs.Model.Reply.{is_ok_status}
use Rattle.csi_types.specs.Model.Same.{same_text, same_number, same_party, same_kind}
use Rattle.csi_types.proofs.Equality.{same_number-tells}
use Rattle.csi_orchestrator.specs.declared.fault.Heard.TheVariants as heards
use Rattle.csi_orchestrator.specs.declared.fault.OrchFault.{OrchFault}
use Rattle.csi_orchestrator.specs.declared.row.OpenCall.{OpenCall}
use Rattle.csi_orchestrator.specs.Model.Due.{Due, due_call, call_for}
use Rattle.csi_orchestrator.specs.Model.History.{History, with_items, Item, Started, Lost, Forgotten, Sent, Accepted, Closed, Noted}
use Rattle.csi_orchestrator.specs.Model.Moves.{Comes, Answer, Hears, Restarted, Moved, sent_as, send_due, undoing_goal, is_number_open, call_replied, hears, heard_refusal, heard, deliver, moves}
use Rattle.csi_orchestrator.specs.Model.Commands.{next_number}
use Rattle.csi_orchestrator.specs.Model.Readings.{issued_in, goal_of, open_in, open_call, last_number}
use Rattle.csi_orchestrator.specs.Model.Shown.{RowShown, OrchestratorParts, Shows, goal_in, row_of, issued_of_open_call, open_in_row}
use Rattle.csi_orchestrator.specs.Model.Thing.{Issued}
use Rattle.csi_orchestrator.specs.Model.WellFormed.{AreWellFormed, IsWellFormed}
use Rattle.csi_orchestrator.specs.Public.Changed.{is_numbered, place_by_call, AreChangedAt, ChangesRowAt}
use Rattle.csi_orchestrator.proofs.JoinedLists.{own-entry}
use Rattle.csi_orchestrator.specs.Public.Stale.{call_answered}
use Rattle.csi_orchestrator.proofs.ListPlaces.{at-of_get}
use Rattle.csi_orchestrator.proofs.Numbers.{other-number, sent-before, unless-some, open-sent}
use Rattle.csi_orchestrator.proofs.RepliedRows.{own-open}
use Rattle.csi_orchestrator.proofs.RowViews.{own-name}
use Rattle.csi_orchestrator.proofs.ViewsFollow.{number-same}
use Rattle.csi_orchestration.specs.Public.OrchestratorLines.{row_at}

-- ---- what is done where a reply is taken

-- the reply to the call of this number was taken first
pub record AddsReply (number : Number) (items : List Item) : Type 0 where
  pub front : List Item
  pub status : Status
  pub id : Option ℕ
  pub are : items ≡ front ++ Accepted number status id ∷ []

-- the items of a move
abbrev items_in : Result Moved OrchFault → List Item
items_in (Ok moved) = moved.items
items_in (Err fault) = []

-- its answer
abbrev answer_in : Result Moved OrchFault → Answer
answer_in (Ok moved) = moved.answer
answer_in (Err fault) = Restarted

-- a success is no refusal
no-refusal : (moved : Moved) (fault : OrchFault) → ◌≡◌ {A = Result Moved OrchFault} (Ok moved) (Err fault) → ⊥
no-refusal moved fault e = absurd (cc)

-- what is ignored isn't taken
not-ignored : (sent : Option Frame) → Hears heards.Ignored ≡ Hears (heards.Taken sent) → ⊥
not-ignored sent e = absurd (cc)

-- one thing more is done where a call is sent or a goal dropped
one-more : (name : List ℕ) (answer : Option Frame → Answer) (items : List Item) (due : Option Due) (number : Option Number) (moved : Moved) → sent_as name answer items due number ≡ Ok moved
    → (item : Item) × (moved.items ≡ item ∷ items)
one-more name answer items None number moved e = (Noted name None, sym (ap items_in e))
one-more name answer items (Some due) None moved e = absurd (cc)
one-more name answer items (Some due) (Some number) moved e = (Sent (record { name = name; number = number; party = due.party; call = due.call }), sym (ap items_in e))

-- by the call that it is a reply to
reply-adds : (history : History) (reply : Reply) (issued : Issued) (moved : Moved) → heard history reply (Some issued) ≡ Ok moved → AddsReply issued.number moved.items
reply-adds history reply issued moved e = by (is_ok_status reply.status) e
  where
    accepted : Item
    accepted = Accepted issued.number reply.status reply.id

    on : (front : List Item) → send_due history issued.name hears (front ++ accepted ∷ []) ≡ Ok moved → AddsReply issued.number moved.items
    on front f =
        let more = one-more issued.name hears (front ++ accepted ∷ []) (due_call (with_items history (front ++ accepted ∷ [])) issued.name) (next_number (last_number history)) moved f in
        record { front = more.0 ∷ front; status = reply.status; id = reply.id; are = more.1 }

    alone : (front : List Item) → front ++ accepted ∷ [] ≡ moved.items → AddsReply issued.number moved.items
    alone front are = record { front = front; status = reply.status; id = reply.id; are = sym are }

    refused : (call : Call) → heard_refusal history issued accepted call ≡ Ok moved → AddsReply issued.number moved.items
    refused (calls.CreateVolume name required limit capabilities) f = alone (Noted issued.name None ∷ []) (ap items_in f)
    refused (calls.DeleteVolume id) f = alone [] (ap items_in f)
    refused (calls.ControllerPublishVolume id node capability readonly) f = on (Noted issued.name (undoing_goal (goal_of history issued.name)) ∷ []) f
    refused (calls.ControllerUnpublishVolume id node) f = alone [] (ap items_in f)
    refused (calls.NodeStageVolume id capability) f = on (Noted issued.name (undoing_goal (goal_of history issued.name)) ∷ []) f
    refused (calls.NodeUnstageVolume id) f = alone [] (ap items_in f)
    refused (calls.NodePublishVolume id target capability readonly) f = on (Noted issued.name (undoing_goal (goal_of history issued.name)) ∷ []) f
    refused (calls.NodeUnpublishVolume id target) f = alone [] (ap items_in f)

    by : (b : Bool) → cond b (send_due history issued.name hears (accepted ∷ [])) (heard_refusal history issued accepted issued.call) ≡ Ok moved → AddsReply issued.number moved.items
    by true f = on [] f
    by false f = refused issued.call f

-- ---- the call isn't open any more

-- a call that was sent before stays among those that were sent
among-later : (front older : List Item) (item : Item) (issued : Issued) → IsAmong issued (issued_in older) → IsAmong issued (issued_in (item ∷ older)) → IsAmong issued (issued_in (front ++ item ∷ older))
among-later [] older item issued among first = first
among-later (Started session nodes ∷ front) older item issued among first = among-later front older item issued among first
among-later (Lost node ∷ front) older item issued among first = among-later front older item issued among first
among-later (Forgotten name ∷ front) older item issued among first = among-later front older item issued among first
among-later (Sent other ∷ front) older item issued among first = inr (among-later front older item issued among first)
among-later (Accepted number status id ∷ front) older item issued among first = among-later front older item issued among first
among-later (Closed number ∷ front) older item issued among first = among-later front older item issued among first
among-later (Noted name goal ∷ front) older item issued among first = among-later front older item issued among first

-- whatever follows, once a reply to it was taken
not-open : (began : Number) (front older : List Item) (name : List ℕ) (issued : Issued) (status : Status) (id : Option ℕ) → AreWellFormed began (front ++ Accepted issued.number status id ∷ older) → open_in name older ≡ Some issued
    → open_in name (front ++ Accepted issued.number status id ∷ older) ≡ Some issued → ⊥
not-open began [] older name issued status id form was is = false≢true (sym (unless-some issued.number (open_in name older) issued is).1 ∙ number-same issued.number)
not-open began (Started session nodes ∷ front) older name issued status id form was is = none-some issued is
not-open began (Lost node ∷ front) older name issued status id form was is = not-open began front older name issued status id form.1 was is
not-open began (Forgotten other ∷ front) older name issued status id form was is = not-open began front older name issued status id form.1 was is
not-open began (Sent other ∷ front) older name issued status id form was is = by (same_text other.name name) is (not-open began front older name issued status id form.1 was)
  where
    later : List Item
    later = front ++ Accepted issued.number status id ∷ older

    own : IsAmong issued (issued_in older)
    own = (open-sent name older issued was).0

    by : (b : Bool) → cond b (Some other) (open_in name later) ≡ Some issued → (open_in name later ≡ Some issued → ⊥) → ⊥
    by true f none =
        let same : other ≡ issued = same_Some other issued f in
        let before = sent-before began later other.number issued form.1 form.0.0.later (among-later front older (Accepted issued.number status id) issued own own) in
        false≢true (sym (other-number issued.number other.number before) ∙ ap (λ (i : Issued). same_number issued.number i.number) same ∙ number-same issued.number)
    by false f none = none f
not-open began (Accepted number other_status other_id ∷ front) older name issued status id form was is =
    not-open began front older name issued status id form.1 was (unless-some number (open_in name (front ++ Accepted issued.number status id ∷ older)) issued is).0
not-open began (Closed number ∷ front) older name issued status id form was is =
    not-open began front older name issued status id form.1 was (unless-some number (open_in name (front ++ Accepted issued.number status id ∷ older)) issued is).0
not-open began (Noted other goal ∷ front) older name issued status id form was is = not-open began front older name issued status id form.1 was is

-- ---- rows at places

-- the item at the place where it is found
pub found-there : {X : Type 0} (is : X → Bool) (items : List X) → option_and_then (slice_get items) (position is items) ≡ find is items
found-there {X} is items = by (position is items) refl
  where
    by : (o : Option ℕ) → position is items ≡ o → option_and_then (slice_get items) o ≡ find is items
    by None e = sym (find-no_place is items e)
    by (Some i) e = elim ((slice_get_cases items i).1) [
      | inl at ↦ at.2 ∙ sym (FirstAt-find is items i at.0 (FirstAt-position is items i at.0 e (sym at.3)))
      | inr past ↦
          let found = cond_some (nat_lt (position_or_len is items) (length items)) (position_or_len is items) i e in
          let below : position_or_len is items < length items = let test = found.0 in grind (arith, nat_tests) in
          absurd (omega (arith, below, found.1, past.0))
    ]

-- what is among the first items, or the last, is among all
among-taken : {X : Type 0} (i : ℕ) (xs : List X) (x : X) → IsAmong x (take i xs) → IsAmong x xs
among-taken zero xs x there = absurd there
among-taken (suc i) [] x there = absurd there
among-taken (suc i) (y ∷ xs) x (inl is) = inl is
among-taken (suc i) (y ∷ xs) x (inr there) = inr (among-taken i xs x there)

among-dropped : {X : Type 0} (i : ℕ) (xs : List X) (x : X) → IsAmong x (drop i xs) → IsAmong x xs
among-dropped zero xs x there = there
among-dropped (suc i) [] x there = absurd there
among-dropped (suc i) (y ∷ xs) x there = inr (among-dropped i xs x there)

-- so is what stands at a place
among-at : {X : Type 0} (xs : List X) (i : ℕ) (x : X) → IsAt xs i x → IsAmong x xs
among-at [] i x at = absurd at
among-at (y ∷ xs) zero x at = inl (sym at)
among-at (y ∷ xs) (suc i) x at = inr (among-at xs i x at)

-- it stands before a place, there, or behind it
by-place : {X : Type 0} (i : ℕ) (xs : List X) (x : X) → IsAmong x xs → IsAmong x (take i xs) ⊎ (IsAt xs i x ⊎ IsAmong x (drop (suc i) xs))
by-place i [] x there = absurd there
by-place zero (y ∷ xs) x (inl is) = inr (inl (sym is))
by-place zero (y ∷ xs) x (inr there) = inr (inr there)
by-place (suc i) (y ∷ xs) x (inl is) = inl (inl is)
by-place (suc i) (y ∷ xs) x (inr there) = elim (by-place i xs x there) [
  | inl first ↦ inl (inr first)
  | inr rest ↦ inr rest
]

-- where one row was changed, each row of before stays, or was there
stays-or-there : (place : ℕ) (old new : List RowShown) (row : RowShown) → AreChangedAt place old new → IsAmong row old → IsAmong row new ⊎ IsAt old place row
stays-or-there place old new row changed there = elim (by-place place old row there) [
  | inl first ↦ inl (among-taken place new row (subst (IsAmong row) (sym changed.before) first))
  | inr (inl at) ↦ inr at
  | inr (inr last) ↦
      let one : suc place ≡ place + 1 = omega arith in
      inl (among-dropped (place + 1) new row (subst (IsAmong row) (ap (λ (n : ℕ). drop n old) one ∙ sym changed.behind) last))
]

-- ---- the volume

-- names differ
abbrev pub AreNamedApart : List RowShown → Type 0
AreNamedApart rows = EachTwo (λ (a b : RowShown). same_text a.name b.name ≡ false) rows

-- a row, which is told of
pub record TellsRow (rows : List RowShown) (told : Option RowShown) (history : History) : Type 0 where
  pub row : RowShown
  pub is : told ≡ Some row
  pub goal : goal_in row ≡ goal_of history row.name

-- a row among those that are shown tells what is wanted by the history
goal-told : (parts : OrchestratorParts) (history : History) (row : RowShown) → Shows parts history → AreNamedApart parts.rows → IsAmong row parts.rows → goal_in row ≡ goal_of history row.name
goal-told parts history row shown names there = sym (ap (option_and_then goal_in) (own-entry (λ (r : RowShown). r.name) parts.rows row names there)) ∙ shown.same_goals row.name

-- the row of an open call
record HasOpen (parts : OrchestratorParts) (issued : Issued) : Type 0 where
  row : RowShown
  found : row_of parts.rows issued.name ≡ Some row
  is_open : open_in_row row ≡ Some issued

-- by the history
open-row : (parts : OrchestratorParts) (history : History) (issued : Issued) → Shows parts history → open_call history issued.name ≡ Some issued → HasOpen parts issued
open-row parts history issued shown is_open = by (row_of parts.rows issued.name) refl (shown.same_open_calls issued.name ∙ is_open)
  where
    by : (o : Option RowShown) → row_of parts.rows issued.name ≡ o → option_and_then open_in_row o ≡ Some issued → HasOpen parts issued
    by None e f = absurd (none-some issued f)
    by (Some row) e f = record { row = row; found = e; is_open = f }

-- a row's open call has the number that its history's call has
numbered-row : (row : RowShown) (issued : Issued) → open_in_row row ≡ Some issued → is_numbered issued.number row.open_call ≡ true
numbered-row row issued e = by row.open_call e
  where
    due_is : (kept : OpenCall) (o : Option Due) → option_map (λ (due : Due). (let i : Issued = record { name = row.name; number = kept.number; party = due.party; call = due.call } in i)) o ≡ Some issued → kept.number ≡ issued.number
    due_is kept None f = absurd (none-some issued f)
    due_is kept (Some due) f = ap (λ (i : Issued). i.number) (same_Some _ issued f)

    by : (o : Option OpenCall) → option_and_then (issued_of_open_call row) o ≡ Some issued → is_numbered issued.number o ≡ true
    by None f = absurd (none-some issued f)
    by (Some kept) f = (same_number-tells kept.number issued.number).1 (due_is kept (call_for row.name (goal_in row) row.id kept.kind) f)

-- a frame is a reply to an open call
pub record IsReply (history : History) (frame : Frame) : Type 0 where
  pub issued : Issued
  pub is : call_answered history frame.number frame.party frame.body ≡ Some issued
  pub is_open : open_call history issued.name ≡ Some issued
  pub has_number : issued.number ≡ frame.number

-- the open call that a reply is to is open under its name, and has its number
replied-open : (history : History) (number : Number) (party : Party) (kind : Kind) (issued : Issued) → IsWellFormed history → call_replied history number party kind ≡ Some issued
    → (open_call history issued.name ≡ Some issued) × (issued.number ≡ number)
replied-open history number party kind issued form e =
    let test : Issued → Bool = λ (i : Issued). same_number i.number number && same_party i.party party && same_kind (kind_of i.call) kind && is_number_open number (open_call history i.name) in
    let own = own-open history number party kind issued form (among-find test (issued_in history.items) issued e) (find-passes test (issued_in history.items) issued e) in
    (own.0, own.1.has_number)

-- ---- what is told

module _ (history : History) (form : IsWellFormed history) (old : OrchestratorParts) (shown : Shows old history) (frame : Frame) where
  -- a reply that was taken is one to an open call
  pub record IsTaken (moved : Moved) : Type 0 where
    pub reply : IsReply history frame
    pub adds : AddsReply reply.issued.number moved.items

  taken-reply : (sent : Option Frame) (moved : Moved) → moves history (Comes frame) ≡ Ok moved → moved.answer ≡ Hears (heards.Taken sent) → IsTaken moved
  taken-reply sent moved e answers = by_body frame.body refl e
    where
      by_call : (kind : Kind) (reply : Reply) → frame.body ≡ bodies.Reply kind reply → (o : Option Issued) → call_replied history frame.number frame.party kind ≡ o → heard history reply o ≡ Ok moved → IsTaken moved
      by_call kind reply is None s f = absurd (not-ignored sent (ap answer_in f ∙ answers))
      by_call kind reply is (Some issued) s f =
          let own = replied-open history frame.number frame.party kind issued form s in
          record {
            reply = record {
              issued = issued;
              is = ap (call_answered history frame.number frame.party) is ∙ s;
              is_open = own.0;
              has_number = own.1;
            };
            adds = reply-adds history reply issued moved f;
          }

      by_body : (body : Body) → frame.body ≡ body → deliver history frame.number frame.party body ≡ Ok moved → IsTaken moved
      by_body (bodies.Call call) is f = absurd (not-ignored sent (ap answer_in f ∙ answers))
      by_body (bodies.Reply kind reply) is f = by_call kind reply is (call_replied history frame.number frame.party kind) refl f

  -- so is one that was refused
  refused-reply : (fault : OrchFault) → moves history (Comes frame) ≡ Err fault → IsReply history frame
  refused-reply fault e = by_body frame.body refl e
    where
      quiet : Moved
      quiet = record { answer = Hears heards.Ignored; items = [] }

      by_call : (kind : Kind) (reply : Reply) → frame.body ≡ bodies.Reply kind reply → (o : Option Issued) → call_replied history frame.number frame.party kind ≡ o → heard history reply o ≡ Err fault → IsReply history frame
      by_call kind reply is None s f = absurd (no-refusal quiet fault f)
      by_call kind reply is (Some issued) s f =
          let own = replied-open history frame.number frame.party kind issued form s in
          record {
            issued = issued;
            is = ap (call_answered history frame.number frame.party) is ∙ s;
            is_open = own.0;
            has_number = own.1;
          }

      by_body : (body : Body) → frame.body ≡ body → deliver history frame.number frame.party body ≡ Err fault → IsReply history frame
      by_body (bodies.Call call) is f = absurd (no-refusal quiet fault f)
      by_body (bodies.Reply kind reply) is f = by_call kind reply is (call_replied history frame.number frame.party kind) refl f

  -- where it was refused, some row has the call
  pub told-refused : (fault : OrchFault) → moves history (Comes frame) ≡ Err fault → AreNamedApart old.rows → TellsRow old.rows (row_at old.rows (place_by_call frame.number old.rows)) history
  told-refused fault e names =
      let reply = refused-reply fault e in
      let own = open-row old history reply.issued shown reply.is_open in
      let has : RowShown → Bool = λ (row : RowShown). is_numbered frame.number row.open_call in
      let numbered : has own.row ≡ true = subst (λ (n : Number). is_numbered n own.row.open_call ≡ true) reply.has_number (numbered-row own.row reply.issued own.is_open) in
      let first = some-found has old.rows own.row (among-find (λ (r : RowShown). same_text r.name reply.issued.name) old.rows own.row own.found) numbered in
      record { row = first.0; is = found-there has old.rows ∙ first.1; goal = goal-told old history first.0 shown names (among-find has old.rows first.0 first.1) }

  -- where it was taken, the row of its call is told of
  pub record TellsCall (new : OrchestratorParts) (next : History) : Type 0 where
    pub reply : IsReply history frame
    pub told : TellsRow new.rows (row_at new.rows (place_by_call frame.number old.rows)) next
    pub own : told.row.name ≡ reply.issued.name

  module _ (new : OrchestratorParts) (sent : Option Frame) (moved : Moved) (is : moves history (Comes frame) ≡ Ok moved) (answers : moved.answer ≡ Hears (heards.Taken sent)) (grown : IsWellFormed (with_items history moved.items))
      (after : Shows new (with_items history moved.items)) (names : AreNamedApart new.rows) (changed : ChangesRowAt (place_by_call frame.number old.rows) old new) where
    -- the row of the call isn't there any more as it was
    row-changed : (reply : IsReply history frame) → AddsReply reply.issued.number moved.items → (row : RowShown) → row.name ≡ reply.issued.name → open_in_row row ≡ Some reply.issued → IsAmong row new.rows → ⊥
    row-changed reply adds row own is_open there =
        let issued = reply.issued in
        let added : moved.items ++ history.items ≡ adds.front ++ Accepted issued.number adds.status adds.id ∷ history.items =
        ap (λ (items : List Item). items ++ history.items) adds.are ∙ append_assoc adds.front (Accepted issued.number adds.status adds.id ∷ []) history.items in
        let found : row_of new.rows row.name ≡ Some row = own-entry (λ (r : RowShown). r.name) new.rows row names there in
        let still : open_in row.name (moved.items ++ history.items) ≡ Some issued = sym (after.same_open_calls row.name) ∙ ap (option_and_then open_in_row) found ∙ is_open in
        not-open history.began adds.front history.items issued.name issued adds.status adds.id (subst (AreWellFormed history.began) added grown) reply.is_open
        (subst (λ (items : List Item). open_in issued.name items ≡ Some issued) added (subst (λ (n : List ℕ). open_in n (moved.items ++ history.items) ≡ Some issued) own still))

    -- it is there, changed
    pub told-taken : TellsCall new (with_items history moved.items)
    told-taken = by (stays-or-there changed.place old.rows new.rows was.row changed.rows (among-find (λ (r : RowShown). same_text r.name taken.reply.issued.name) old.rows was.row was.found))
      where
        taken : IsTaken moved
        taken = taken-reply sent moved is answers

        was : HasOpen old taken.reply.issued
        was = open-row old history taken.reply.issued shown taken.reply.is_open

        named : was.row.name ≡ taken.reply.issued.name
        named = own-name old taken.reply.issued.name was.row was.found

        there : IsAt old.rows changed.place was.row → TellsCall new (with_items history moved.items)
        there at = elim ((slice_get_cases new.rows changed.place).1) [
          | inl now ↦
              let stands : IsAt new.rows changed.place now.0 = at-of_get new.rows changed.place now.0 now.2 in
              record {
                reply = taken.reply;
                told = record {
                  row = now.0;
                  is = ap (row_at new.rows) changed.there ∙ now.2;
                  goal = goal-told new (with_items history moved.items) now.0 after names (among-at new.rows changed.place now.0 stands);
                };
                own = changed.rows.named was.row now.0 at stands ∙ named;
              }
          | inr past ↦ absurd (omega (arith, changed.rows.within, past.0))
        ]

        by : IsAmong was.row new.rows ⊎ IsAt old.rows changed.place was.row → TellsCall new (with_items history moved.items)
        by (inl stays) = absurd (row-changed taken.reply taken.adds was.row named was.is_open stays)
        by (inr at) = there at
