-- Why the rows tell what the history tells of a timeout, a reply and a restart.
use Rattle.csi_orchestrator.proofs.Words.{◌≡◌, ℕ, List, [], ◌∷◌, Bool, true, false, cond, refl, sym, ◌∙◌, ap, subst}
use Rattle.csi_orchestrator.proofs.Words.{Option, Some, None, ◌==◌, ◌&&◌, is_none, option_map, option_and_then, Result}
use Rattle.csi_orchestrator.proofs.Words.{Ok, Err, Kind, Party, Body, Number, Reply, kind_of, Frame, is_ok_status}
use Rattle.csi_orchestrator.proofs.Words.{same_text, Ignored, OrchFault, Goal, OpenCall, Create, Use, Stop, Delete}
use Rattle.csi_orchestrator.proofs.Words.{Usage, Issued, Item, Accepted, Noted, History, with_items, goal_of}
use Rattle.csi_orchestrator.proofs.Words.{open_call, tries, IsWellFormed, timeout_fault, Due, Input, ToCreate, ToUse}
use Rattle.csi_orchestrator.proofs.Words.{ToStop, ToDelete, TimesOut, Comes, Restarts, Loses, Answer, Sends, Hears}
use Rattle.csi_orchestrator.proofs.Words.{Moved, send_due, is_forward, is_forward_due, undoing_goal, closing, timeout}
use Rattle.csi_orchestrator.proofs.Words.{hears, call_replied, heard, heard_refusal, deliver, moves, OrchestratorView}
use Rattle.csi_orchestrator.proofs.Words.{Agrees, after_accepted, after_closed, after_noted, RowShown}
use Rattle.csi_orchestrator.proofs.Words.{OrchestratorParts, row_of, goal_shown, held_on_node, open_in_row, issued_of_open_call}
use Rattle.csi_orchestrator.proofs.Words.{orchestrator_view, Shows, closed, due_in, kind_due, succeeded_row}
use Rattle.csi_orchestrator.proofs.Words.{wanted_row, stopped_goal, idle_refusal, MovedRow, row_sends_due, row_rests}
use Rattle.csi_orchestrator.proofs.Words.{row_unless, waits_for, is_given_up, timed_out, failed, MovedRows, moved_rows}
use Rattle.csi_orchestrator.proofs.Words.{all_rows_moved, steps_at, row_replied, is_issued_as, hears_reply, receives}
use Rattle.csi_orchestrator.proofs.Words.{row_moves, AreSteadyRowsIf, IsSoundRow, AreSoundRows, AreGuarded, RowsTell}
use Rattle.csi_orchestrator.proofs.Words.{MovesAreGuarded, arith}
use Rattle.csi_orchestrator.proofs.Lemmas.{false≢true, and_parts, same_Some, none-some, find-passes}
use Rattle.csi_types.specs.declared.frame.Body.TheVariants as bodies
use Rattle.csi_orchestrator.specs.declared.fault.OrchFault.TheVariants as faults
use Rattle.csi_orchestrator.specs.declared.step.Step.TheVariants.{TimeOut, Succeed, Fail}
use Rattle.csi_orchestrator.specs.Model.History as wishes
use Rattle.csi_orchestrator.proofs.TextLists.{text-same}
use Rattle.csi_orchestrator.proofs.DueCalls.{due-of-row}
use Rattle.csi_orchestrator.proofs.DueCases.{IsDueFor, due-cases, ToMake, ToRemove, ToAttach, ToStage, ToPublish, ToUnpublish, ToUnstage, ToDetach}
use Rattle.csi_orchestrator.proofs.ViewsFollow.{closed-follows, noted-follows}
use Rattle.csi_orchestrator.proofs.RepliesFollow.{accepted-follows}
use Rattle.csi_orchestrator.proofs.RowMarks.{has-entry}
use Rattle.csi_orchestrator.proofs.SendingAgrees.{Guards, Tells, IsReady, then-dropped, sends-due-tells}
use Rattle.csi_orchestrator.proofs.StepsSound.{closed-may, stopped-may, changed-may}
use Rattle.csi_orchestrator.proofs.RowsAfterNotes.{reads-wanted, reads-closed, reads-quiet, reads-refused}
use Rattle.csi_orchestrator.proofs.RefusalsRead.{timeout-unknown, timeout-refused}
use Rattle.csi_orchestrator.proofs.RepliedRows.{replied, found-own, hears-it}
use Rattle.csi_orchestrator.proofs.BeginningsAgree.{restarts-tell, losses-tell}
use Rattle.csi_orchestrator.proofs.RowViews.{Reads, SameAt, same-self, same-then, same-accepted, same-closed, same-noted, put-agrees, row-reads, own-name, IsRowOf, is-row-of}
use Rattle.csi_orchestrator.proofs.RowsAfterSending.{issued-by, reads-succeeded}
use Rattle.csi_orchestrator.proofs.CommandsAgree.{AreRight, IsFound, own-kept, own-reads, creates-tell, uses-tell, stops-tell, deletes-tell}

-- a forward call is due for a use
forward-goal : (row : RowShown) (due : Due) → IsDueFor row due → is_forward due.call ≡ true → (usage : Usage) × (row.goal ≡ Some (Use usage))
forward-goal row due other forward = grind (arith, false≢true)

-- where a forward call is due for a row, its goal is a use
forward-due : (row : RowShown) → is_forward_due (due_in row) ≡ true → (usage : Usage) × (row.goal ≡ Some (Use usage))
forward-due row forward = grind (arith, false≢true, forward-goal, due-cases)

-- an open call is of its row's name
open-name : (row : RowShown) (o : Option OpenCall) (issued : Issued) → option_and_then (issued_of_open_call row) o ≡ Some issued → issued.name ≡ row.name
open-name row o issued e = grind (arith, none-some, issued-by, same_Some)

-- its call was closed, by a timeout or by a refusal: it tells what is shown after these items
record IsClosed (parts : OrchestratorParts) (history : History) (name : List ℕ) (row : RowShown) (items : List Item) : Type 0 where
  view : OrchestratorView
  form : IsWellFormed (with_items history items)
  agrees : Agrees view (with_items history items)
  reads : Reads (closed row) view name
  others : (other : List ℕ) → same_text name other ≡ false → SameAt view (orchestrator_view parts) other
  same_nodes : parts.nodes ≡ view.nodes
  same_last : parts.last ≡ view.last
  guarded : AreGuarded history items

-- the due call may be sent, or that of a stopped use
closed-ready : (parts : OrchestratorParts) (history : History) (name : List ℕ) (row : RowShown) (items : List Item) → IsFound parts history name row → (c : IsClosed parts history name row items)
    → IsReady parts history name (closed row) c.view items
closed-ready parts history name row items at c = grind (arith, closed-may, own-kept)

-- the rows tell the same as the history where a use, whose call was closed, becomes a stop
use-stops : (parts : OrchestratorParts) (history : History) (name : List ℕ) (row : RowShown) (items : List Item) (usage : Usage) (answer : Option Frame → Answer) → IsFound parts history name row → IsClosed parts history name row items
    → row.goal ≡ Some (Use usage) → Tells history (all_rows_moved parts answer (row_sends_due parts.last (wanted_row (Stop usage.node usage.target) row))) (send_due history name answer (Noted name (undoing_goal (goal_of history name)) ∷ items))
use-stops parts history name row items usage answer at c goal =
    subst (λ g. Tells history (all_rows_moved parts answer (row_sends_due parts.last (wanted_row (Stop usage.node usage.target) row))) (send_due history name answer (Noted name (undoing_goal g) ∷ items)))
    (sym (ap (option_map (goal_shown row.arguments)) goal) ∙ (is-row-of parts history name row (at.right).agrees at.found).goals)
    (sends-due-tells parts history name (wanted_row (Stop usage.node usage.target) (closed row)) (after_noted name stop c.view) (Noted name stop ∷ items)
    (record {
      form = (tt, c.form);
      agrees = noted-follows c.view (with_items history items) name stop c.agrees;
      reads = reads-wanted (Stop usage.node usage.target) (closed row) c.view name c.reads (sym (c.reads).open_calls);
      others = λ other differs. same-then (after_noted name stop c.view) c.view (orchestrator_view parts) other (same-noted name stop c.view other differs) (c.others other differs);
      same_nodes = c.same_nodes;
      same_last = c.same_last;
      old_last = sym ((at.right).agrees).same_last;
      quiet = sym (c.reads).open_calls;
      may_send = stopped-may row (Use usage) goal (own-kept parts history name row at);
      guarded = c.guarded;
    }) answer)
  where
    stop : Option wishes.Goal
    stop = Some (wishes.Stop usage.node usage.target)

-- the call of a name is given up, if it has one
given-up : (parts : OrchestratorParts) (history : History) (name : List ℕ) (row : RowShown) → IsFound parts history name row → (o : Option Issued) → open_call history name ≡ o → IsClosed parts history name row (closing o)
given-up parts history name row at None f =
    record {
      view = orchestrator_view parts;
      form = (at.right).form;
      agrees = (at.right).agrees;
      reads = reads-quiet row (orchestrator_view parts) name (own-reads parts history name row at) (((at.right).agrees).same_open_calls name ∙ f);
      others = λ other differs. same-self (orchestrator_view parts) other;
      same_nodes = refl;
      same_last = refl;
      guarded = tt;
    }
given-up parts history name row at (Some issued) f =
    record {
      view = after_closed issued (orchestrator_view parts);
      form = (record { name = name; issued = issued; is_open = f; has_number = refl }, (at.right).form);
      agrees = closed-follows (orchestrator_view parts) history issued (at.right).form (at.right).agrees (ap (open_call history) its ∙ f);
      reads = reads-closed row issued (orchestrator_view parts) name its (own-reads parts history name row at);
      others = λ other differs. same-closed issued (orchestrator_view parts) other (ap (λ n. same_text n other) its ∙ differs);
      same_nodes = refl;
      same_last = refl;
      guarded = tt;
    }
  where
    its : issued.name ≡ name
    its =
        open-name row row.open_call issued (sym (ap (option_and_then open_in_row) at.found) ∙ ((at.right).agrees).same_open_calls name ∙ f)
        ∙ own-name parts name row at.found

-- a timeout
timeout-tells : (parts : OrchestratorParts) (history : History) (name : List ℕ) (row : RowShown) → IsFound parts history name row → (goal : Option Goal) → row.goal ≡ goal
    → Tells history (all_rows_moved parts Sends (row_unless (idle_refusal goal) (row_sends_due parts.last (timed_out row goal)))) (timeout history name (cond (is_none goal) (Some faults.Idle) None))
timeout-tells parts history name row at None g = (refl, tt)
timeout-tells parts history name row at (Some goal) g =
    subst (λ d. Tells history (all_rows_moved parts Sends on) (cond (is_forward_due d && (tries history name == 3)) stop more)) (sym (due-of-row row history name own (own-kept parts history name row at).targets))
    (subst (λ t. Tells history (all_rows_moved parts Sends on) (cond (is_forward_due (due_in row) && (t == 3)) stop more)) own.counts (by (is_given_up row) refl))
  where
    own : IsRowOf row history name
    own = is-row-of parts history name row (at.right).agrees at.found

    items : List Item
    items = closing (open_call history name)

    given : IsClosed parts history name row items
    given = given-up parts history name row at (open_call history name) refl

    on : Result MovedRow OrchFault
    on = row_sends_due parts.last (timed_out row (Some goal))

    stop : Result Moved OrchFault
    stop = send_due history name Sends (Noted name (undoing_goal (goal_of history name)) ∷ items)

    more : Result Moved OrchFault
    more = send_due history name Sends items

    by : (b : Bool) → is_given_up row ≡ b → Tells history (all_rows_moved parts Sends (row_sends_due parts.last (cond b (wanted_row (stopped_goal goal) row) (closed row)))) (cond b stop more)
    by true spent =
        let wish = forward-due row (and_parts (is_forward_due (due_in row)) (row.tries == 3) spent).0 in
        subst (λ w. Tells history (all_rows_moved parts Sends (row_sends_due parts.last (wanted_row (stopped_goal w) row))) stop) (same_Some (Use wish.0) goal (sym wish.1 ∙ g))
        (use-stops parts history name row items wish.0 Sends at given wish.1)
    by false left = sends-due-tells parts history name (closed row) given.view items (closed-ready parts history name row items at given) Sends

-- the same, whether the name has a row or not
timeouts-tell : (parts : OrchestratorParts) (history : History) (name : List ℕ) → AreRight parts history → (o : Option RowShown) → row_of parts.rows name ≡ o
    → Tells history (steps_at parts Sends TimeOut o) (timeout history name (timeout_fault history name))
timeouts-tell parts history name right None e =
    subst (λ f. Tells history (Err faults.NoSuchVolume) (timeout history name f)) (sym (timeout-unknown parts history name right.agrees e)) (refl, tt)
timeouts-tell parts history name right (Some row) e =
    subst (λ f. Tells history (steps_at parts Sends TimeOut (Some row)) (timeout history name f)) (sym (timeout-refused history name row (is-row-of parts history name row right.agrees e)))
    (timeout-tells parts history name row (record { right = right; found = e }) row.goal refl)

-- a reply comes to the due call of the row
record IsHeardBy (parts : OrchestratorParts) (history : History) (row : RowShown) (number : Number) (due : Due) : Type 0 where
  at : IsFound parts history row.name row
  is_due : due_in row ≡ Some due
  is_open : open_call history row.name ≡ Some (issued-by row.name number due)

-- the item of a reply that was taken, and what is shown after it
taken : Number → Reply → Item
taken number reply = Accepted number reply.status reply.id

-- what is shown after it
heard-view : OrchestratorParts → RowShown → Number → Due → Reply → OrchestratorView
heard-view parts row number due reply = after_accepted (issued-by row.name number due) reply.status reply.id (orchestrator_view parts)

-- the history is well-formed then, and agrees with what is shown
heard-form : (parts : OrchestratorParts) (history : History) (row : RowShown) (number : Number) (due : Due) (reply : Reply) → IsHeardBy parts history row number due → IsWellFormed (with_items history (taken number reply ∷ []))
unfolding taken
heard-form parts history row number due reply by = (record { name = row.name; issued = issued-by row.name number due; is_open = by.is_open; has_number = refl }, (by.at.right).form)

-- the history with that item agrees with what is shown
heard-agrees : (parts : OrchestratorParts) (history : History) (row : RowShown) (number : Number) (due : Due) (reply : Reply) → IsHeardBy parts history row number due
    → Agrees (heard-view parts row number due reply) (with_items history (taken number reply ∷ []))
unfolding heard-view taken
heard-agrees parts history row number due reply by = accepted-follows (orchestrator_view parts) history (issued-by row.name number due) reply.status reply.id (by.at.right).form (by.at.right).agrees by.is_open

-- a status other than OK
heard-closed : (parts : OrchestratorParts) (history : History) (row : RowShown) (number : Number) (due : Due) (reply : Reply) → IsHeardBy parts history row number due → is_ok_status reply.status ≡ false
    → IsClosed parts history row.name row (taken number reply ∷ [])
unfolding heard-view taken
heard-closed parts history row number due reply by bad =
    record {
      view = heard-view parts row number due reply;
      form = heard-form parts history row number due reply by;
      agrees = heard-agrees parts history row number due reply by;
      reads = reads-refused row (issued-by row.name number due) reply.status reply.id (orchestrator_view parts) row.name refl bad (row-reads parts row.name row refl (by.at).found);
      others = λ other differs. same-accepted (issued-by row.name number due) reply.status reply.id (orchestrator_view parts) other differs;
      same_nodes = refl;
      same_last = refl;
      guarded = tt;
    }

-- a success
success-tells : (parts : OrchestratorParts) (history : History) (row : RowShown) (number : Number) (due : Due) (reply : Reply) → IsHeardBy parts history row number due → is_ok_status reply.status ≡ true
    → Tells history (all_rows_moved parts hears (row_sends_due parts.last (succeeded_row (kind_of due.call) reply.id row))) (send_due history row.name hears (taken number reply ∷ []))
unfolding heard-view taken
success-tells parts history row number due reply by fine =
    sends-due-tells parts history row.name (succeeded_row (kind_of due.call) reply.id row) (heard-view parts row number due reply) (taken number reply ∷ [])
    (record {
      form = heard-form parts history row number due reply by;
      agrees = heard-agrees parts history row number due reply by;
      reads = reads-succeeded row (orchestrator_view parts) row.name due number reply.status reply.id (row-reads parts row.name row refl (by.at).found) (λ node. sym (ap (option_and_then (λ (r : RowShown). held_on_node r node)) (by.at).found))
          (has-entry row row.goal own.goal) (due-cases row due by.is_due) fine;
      others = λ other differs. same-accepted (issued-by row.name number due) reply.status reply.id (orchestrator_view parts) other differs;
      same_nodes = refl;
      same_last = refl;
      old_last = sym ((by.at.right).agrees).same_last;
      quiet = ap (λ b. cond b None ((orchestrator_view parts).open_calls row.name)) (text-same row.name);
      may_send = changed-may parts.nodes parts.last (Succeed (kind_of due.call) reply.id) row own (own, ap kind_due by.is_due) refl;
      guarded = tt;
    }) hears
  where
    own : IsSoundRow row
    own = own-kept parts history row.name row by.at

-- what is told by a failure of the call that is due for this goal
Fails : OrchestratorParts → RowShown → Option Goal → Result MovedRows OrchFault
Fails parts row goal = all_rows_moved parts hears (cond (waits_for goal) (row_rests (closed row)) (row_sends_due parts.last (failed row goal)))

-- a refusal after which nothing is sent
waits-tell : (parts : OrchestratorParts) (history : History) (row : RowShown) (number : Number) (due : Due) (reply : Reply) (goal : Goal) → IsHeardBy parts history row number due → is_ok_status reply.status ≡ false
    → waits_for (Some goal) ≡ true → row.goal ≡ Some goal → Tells history (Fails parts row row.goal) (Ok (let m : Moved = record { answer = hears None; items = taken number reply ∷ [] } in m))
unfolding taken Fails
waits-tell parts history row number due reply goal by bad waiting wish =
    let c = heard-closed parts history row number due reply by bad in
    subst (λ b. Tells history (all_rows_moved parts hears (cond b (row_rests (closed row)) (row_sends_due parts.last (failed row row.goal)))) (Ok (let m : Moved = record { answer = hears None; items = taken number reply ∷ [] } in m)))
    (sym (ap waits_for wish ∙ waiting)) ((refl, put-agrees parts parts.last row.name (closed row) c.view (with_items history (taken number reply ∷ [])) c.reads c.others c.same_nodes c.same_last c.agrees), tt)

-- a create that was refused
drops-tell : (parts : OrchestratorParts) (history : History) (row : RowShown) (number : Number) (due : Due) (reply : Reply) → IsHeardBy parts history row number due → is_ok_status reply.status ≡ false → row.goal ≡ Some Create
    → Tells history (Fails parts row row.goal) (Ok (let m : Moved = record { answer = hears None; items = Noted row.name None ∷ taken number reply ∷ [] } in m))
unfolding taken Fails
drops-tell parts history row number due reply by bad wish =
    let c = heard-closed parts history row number due reply by bad in
    subst (λ g. Tells history (Fails parts row g) (Ok (let m : Moved = record { answer = hears None; items = Noted row.name None ∷ taken number reply ∷ [] } in m))) (sym wish)
    ((refl, then-dropped parts history row.name (closed row) c.view (taken number reply ∷ []) (closed-ready parts history row.name row (taken number reply ∷ []) by.at c)), tt)

-- a forward call that was refused: the use is stopped
stops-after : (parts : OrchestratorParts) (history : History) (row : RowShown) (number : Number) (due : Due) (reply : Reply) (usage : Usage) → IsHeardBy parts history row number due → is_ok_status reply.status ≡ false
    → row.goal ≡ Some (Use usage) → Tells history (Fails parts row row.goal) (send_due history row.name hears (Noted row.name (undoing_goal (goal_of history row.name)) ∷ taken number reply ∷ []))
unfolding Fails
stops-after parts history row number due reply usage by bad wish =
    subst (λ g. Tells history (Fails parts row g) (send_due history row.name hears (Noted row.name (undoing_goal (goal_of history row.name)) ∷ taken number reply ∷ []))) (sym wish)
    (use-stops parts history row.name row (taken number reply ∷ []) usage hears by.at (heard-closed parts history row number due reply by bad) wish)

-- a status other than OK, by each call that may be due
refusal-tells : (parts : OrchestratorParts) (history : History) (row : RowShown) (number : Number) (due : Due) (reply : Reply) → IsHeardBy parts history row number due → is_ok_status reply.status ≡ false → IsDueFor row due
    → Tells history (Fails parts row row.goal) (heard_refusal history (issued-by row.name number due) (taken number reply) due.call)
refusal-tells parts history row number _ reply by bad (ToMake goal e) = drops-tell parts history row number _ reply by bad goal
refusal-tells parts history row number _ reply by bad (ToRemove id goal own e) = waits-tell parts history row number _ reply Delete by bad refl goal
refusal-tells parts history row number _ reply by bad (ToAttach usage id goal own a) = stops-after parts history row number _ reply usage by bad goal
refusal-tells parts history row number _ reply by bad (ToStage usage id goal own a s) = stops-after parts history row number _ reply usage by bad goal
refusal-tells parts history row number _ reply by bad (ToPublish usage id goal own a s p) = stops-after parts history row number _ reply usage by bad goal
refusal-tells parts history row number _ reply by bad (ToUnpublish node target id goal own p) = waits-tell parts history row number _ reply (Stop node target) by bad refl goal
refusal-tells parts history row number _ reply by bad (ToUnstage node target id goal own p o s) = waits-tell parts history row number _ reply (Stop node target) by bad refl goal
refusal-tells parts history row number _ reply by bad (ToDetach node target id goal own p o s a) = waits-tell parts history row number _ reply (Stop node target) by bad refl goal

-- a reply to the open call of a row
heard-tells : (parts : OrchestratorParts) (history : History) (row : RowShown) (number : Number) (due : Due) (reply : Reply) → IsHeardBy parts history row number due
    → Tells history (hears_reply parts (kind_of due.call) reply (Some row)) (heard history reply (Some (issued-by row.name number due)))
unfolding taken Fails
heard-tells parts history row number due reply by = tells (is_ok_status reply.status) refl
  where
    tells : (b : Bool) → is_ok_status reply.status ≡ b → Tells history (steps_at parts hears (cond b (Succeed (kind_of due.call) reply.id) Fail) (Some row))
        (cond b (send_due history row.name hears (taken number reply ∷ [])) (heard_refusal history (issued-by row.name number due) (taken number reply) due.call))
    tells true fine = success-tells parts history row number due reply by fine
    tells false bad = refusal-tells parts history row number due reply by bad (due-cases row due by.is_due)

-- a reply, whether it is to the open call of a row or not
replies-tell : (parts : OrchestratorParts) (history : History) (number : Number) (party : Party) (kind : Kind) (reply : Reply) → AreRight parts history
    → (o : Option RowShown) → row_replied parts.rows number party kind ≡ o → Tells history (hears_reply parts kind reply o) (heard history reply (call_replied history number party kind))
replies-tell parts history number party kind reply right None e =
    subst (λ c. Tells history (moved_rows parts (Hears Ignored)) (heard history reply c)) (sym (replied parts history number party kind right.form right.kept right.agrees ∙ ap (option_and_then open_in_row) e))
    ((refl, right.agrees), tt)
replies-tell parts history number party kind reply right (Some row) e =
    let there = found-own parts number party kind row right.kept e in
    let at : IsFound parts history row.name row = record { right = right; found = there } in
    let it = hears-it row number party kind (find-passes (λ (r : RowShown). is_issued_as number party kind (open_in_row r)) parts.rows row e) in
    subst (λ c. Tells history (hears_reply parts kind reply (Some row)) (heard history reply c))
    (sym (replied parts history number party kind right.form right.kept right.agrees ∙ ap (option_and_then open_in_row) e ∙ it.told))
    (subst (λ k. Tells history (hears_reply parts k reply (Some row)) (heard history reply (Some (issued-by row.name number it.due)))) it.has_kind
    (heard-tells parts history row number it.due reply
    (record {
      at = at;
      is_due = (own-kept parts history row.name row at).open_due it.due it.is_open;
      is_open = sym ((right.agrees).same_open_calls row.name) ∙ ap (option_and_then open_in_row) there ∙ it.told;
    })))

-- a frame that comes, of which a call is ignored
deliveries-tell : (parts : OrchestratorParts) (history : History) (number : Number) (party : Party) (body : Body) → AreRight parts history → Tells history (receives parts number party body) (deliver history number party body)
deliveries-tell parts history number party (bodies.Call call) right = ((refl, right.agrees), tt)
deliveries-tell parts history number party (bodies.Reply kind reply) right = replies-tell parts history number party kind reply right (row_replied parts.rows number party kind) refl

-- each input
by-input : (parts : OrchestratorParts) (history : History) (input : Input) → AreRight parts history → Tells history (row_moves parts input) (moves history input)
by-input parts history (ToCreate name arguments) right = creates-tell parts history name arguments right (row_of parts.rows name) refl
by-input parts history (ToUse name usage) right = uses-tell parts history name usage right (row_of parts.rows name) refl
by-input parts history (ToStop name node target) right = stops-tell parts history name node target right (row_of parts.rows name) refl
by-input parts history (ToDelete name) right = deletes-tell parts history name right (row_of parts.rows name) refl
by-input parts history (TimesOut name) right = timeouts-tell parts history name right (row_of parts.rows name) refl
by-input parts history (Comes frame) right = deliveries-tell parts history frame.number frame.party frame.body right
by-input parts history (Restarts nodes) right = restarts-tell parts history nodes right.kept right.steady right.agrees
by-input parts history (Loses node) right = losses-tell parts history node right.kept right.steady right.agrees

-- the same of rows that are sound and agree with a well-formed history
pub all-tell : (parts : OrchestratorParts) (history : History) (input : Input) → IsWellFormed history → AreSoundRows parts.rows → AreSteadyRowsIf (Unit {0}) parts.rows → Shows parts history
    → Tells history (row_moves parts input) (moves history input)
all-tell parts history input form kept steady agrees = by-input parts history input (record { form = form; kept = kept; steady = steady; agrees = agrees })

-- whatever comes, the rows tell what the history tells
pub rows-tell : RowsTell
rows-tell parts history input form kept steady agrees = (all-tell parts history input form kept steady agrees).0

-- whatever comes, each call that is sent may be sent
pub moves-are-guarded : MovesAreGuarded
moves-are-guarded parts history input moved form kept steady agrees e = subst (Guards history) e (all-tell parts history input form kept steady agrees).1
