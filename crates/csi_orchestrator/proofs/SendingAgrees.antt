-- Why a row whose due call is sent, or whose goal is dropped, tells what the history tells then.
use Rattle.csi_orchestrator.proofs.Words.{◌≡◌, ℕ, List, ◌∷◌, true, false, refl, sym, ◌∙◌, ap, subst, Option, Some}
use Rattle.csi_orchestrator.proofs.Words.{None, Result, Ok, Err, Number, kind_of, Frame, same_text, OrchFault}
use Rattle.csi_orchestrator.proofs.Words.{Attached, Issued, touches, is_no, is_doing, Item, Sent, Noted, History}
use Rattle.csi_orchestrator.proofs.Words.{with_items, open_call, last_number, IsNextNumber, IsWellFormed, next_number}
use Rattle.csi_orchestrator.proofs.Words.{Due, due_call, MayIssue, Answer, Moved, sent_as, send_due, OrchestratorView}
use Rattle.csi_orchestrator.proofs.Words.{Agrees, after_sent, after_noted, DetachesSomething, RowShown}
use Rattle.csi_orchestrator.proofs.Words.{OrchestratorParts, node_entry_of, mark_in, orchestrator_view, Shows, due_in}
use Rattle.csi_orchestrator.proofs.Words.{row_once_sent, dropped_row, outgoing_by, row_moved, row_sends_due, MovedRows}
use Rattle.csi_orchestrator.proofs.Words.{put, all_rows_moved, AreGuarded, MovesAgree, arith}
use Rattle.csi_orchestrator.proofs.Lemmas.{false≢true, and_parts, same_text-tells}
use Rattle.csi_orchestrator.proofs.DueCalls.{due-of-row}
use Rattle.csi_orchestrator.proofs.DueCases.{IsDueFor, due-cases}
use Rattle.csi_orchestrator.proofs.ViewsFollow.{sent-follows, noted-follows}
use Rattle.csi_orchestrator.proofs.AddedItems.{IsNextIfSome, is_next}
use Rattle.csi_orchestrator.proofs.DueCallsGuarded.{due-guarded}
use Rattle.csi_orchestrator.proofs.StepsSound.{MaySendDue}
use Rattle.csi_orchestrator.proofs.RowMarks.{has-entry}
use Rattle.csi_orchestrator.proofs.RowsAfterNotes.{reads-dropped}
use Rattle.csi_orchestrator.proofs.RowViews.{Reads, SameAt, same-then, same-sent, same-noted, put-agrees, IsRowOf, reads-history}
use Rattle.csi_orchestrator.proofs.RowsAfterSending.{issued-by, reads-sent}
use Rattle.csi_orchestrator.proofs.KnownTests.{not_no}

-- each call that is sent may be sent
abbrev pub Guards : History → Result Moved OrchFault → Type 0
Guards history (Ok moved) = AreGuarded history moved.items
Guards history (Err fault) = Unit {0}

-- the two answers are one, what is shown agrees, and what is sent may be sent
abbrev pub Tells : History → Result MovedRows OrchFault → Result Moved OrchFault → Type 0
Tells history moved_rows moved = MovesAgree history moved_rows moved × Guards history moved

-- after these items a row of a name is as it should be, but that its due call isn't sent yet
pub record IsReady (parts : OrchestratorParts) (history : History) (name : List ℕ) (row : RowShown) (view : OrchestratorView) (items : List Item) : Type 0 where
  pub form : IsWellFormed (with_items history items)
  pub agrees : Agrees view (with_items history items)
  pub reads : Reads row view name
  pub others : (other : List ℕ) → same_text name other ≡ false → SameAt view (orchestrator_view parts) other
  pub same_nodes : parts.nodes ≡ view.nodes
  pub same_last : parts.last ≡ view.last
  pub old_last : last_number history ≡ parts.last
  pub quiet : view.open_calls name ≡ None
  pub may_send : MaySendDue row
  pub guarded : AreGuarded history items

-- the one call that detaches is due where the volume may be attached
detaching-something : (row : RowShown) (due : Due) (name node : List ℕ) (number : Number) → IsDueFor row due → touches (Attached name node) (issued-by name number due) ≡ true → is_doing due.call ≡ false
    → is_no (mark_in (λ entry. entry.attached) (node_entry_of row node)) ≡ false
detaching-something row due name node number other of undoes = grind (arith, false≢true, same_text-tells, and_parts)

-- its due call is the one that is due by that history
due-there : (parts : OrchestratorParts) (history : History) (name : List ℕ) (row : RowShown) (view : OrchestratorView) (items : List Item) → IsReady parts history name row view items → due_call (with_items history items) name ≡ due_in row
due-there parts history name row view items ready =
    due-of-row row (with_items history items) name (reads-history row view (with_items history items) name ready.reads ready.agrees) ((ready.may_send).distinct).targets

-- the due call may be sent
may-issue : (parts : OrchestratorParts) (history : History) (name : List ℕ) (row : RowShown) (view : OrchestratorView) (items : List Item) (due : Due) → IsReady parts history name row view items → due_in row ≡ Some due
    → MayIssue (with_items history items) name due.party due.call
may-issue parts history name row view items due ready e =
    let own = (ready.reads).own in
    let its = reads-history row view (with_items history items) name ready.reads ready.agrees in
    subst (λ n. MayIssue (with_items history items) n due.party due.call) own
    (due-guarded row (with_items history items) due (subst (IsRowOf row (with_items history items)) (sym own) its) ((ready.may_send).distinct).targets ((ready.may_send).may due e)
    (ap (open_call (with_items history items)) own ∙ sym ((ready.agrees).same_open_calls name) ∙ ready.quiet) e)

-- it was sent
then-sent : (parts : OrchestratorParts) (history : History) (name : List ℕ) (row : RowShown) (view : OrchestratorView) (items : List Item) (due : Due) (number : Number) → IsReady parts history name row view items
    → due_in row ≡ Some due → next_number parts.last ≡ Some number
    → Shows (record { nodes = parts.nodes; last = number; rows = put (row_once_sent number (kind_of due.call) row) parts.rows }) (with_items history (Sent (issued-by name number due) ∷ items))
then-sent parts history name row view items due number ready e n =
    put-agrees parts number name (row_once_sent number (kind_of due.call) row) (after_sent issued view) (with_items history (Sent issued ∷ items))
    (reads-sent row view name due number ready.reads (has-entry row row.goal ((ready.may_send).may due e)) case)
    (λ other differs. same-then (after_sent issued view) view (orchestrator_view parts) other (same-sent issued view other differs) (ready.others other differs)) ready.same_nodes refl
    (sent-follows view (with_items history items) issued ready.form ready.agrees next detaches)
  where
    issued : Issued
    issued = issued-by name number due

    case : IsDueFor row due
    case = due-cases row due e

    is_last : last_number (with_items history items) ≡ parts.last
    is_last = sym ((ready.agrees).same_last) ∙ sym ready.same_last

    next : IsNextNumber (last_number (with_items history items)) number
    next = subst (λ l. IsNextNumber l number) (sym is_last) (subst (IsNextIfSome parts.last) n (is_next parts.last))

    detaches : DetachesSomething (with_items history items) issued
    detaches node of undoes is =
        not_no (mark_in (λ entry. entry.attached) (node_entry_of row node)) (detaching-something row due name node number case of undoes)
        ((ready.reads).marks (Attached name node) refl ∙ (ready.agrees).same_marks (Attached name node) ∙ is)

-- none was due, and the goal was dropped
pub then-dropped : (parts : OrchestratorParts) (history : History) (name : List ℕ) (row : RowShown) (view : OrchestratorView) (items : List Item) → IsReady parts history name row view items
    → Shows (record { nodes = parts.nodes; last = parts.last; rows = put (dropped_row row) parts.rows }) (with_items history (Noted name None ∷ items))
then-dropped parts history name row view items ready =
    put-agrees parts parts.last name (dropped_row row) (after_noted name None view) (with_items history (Noted name None ∷ items))
    (reads-dropped row view name ((ready.may_send).distinct).nodes ((ready.may_send).distinct).targets ready.reads ready.quiet)
    (λ other differs. same-then (after_noted name None view) view (orchestrator_view parts) other (same-noted name None view other differs) (ready.others other differs)) ready.same_nodes ready.same_last
    (noted-follows view (with_items history items) name None ready.agrees)

-- the due call of a row that is ready is sent as the history tells it
pub sends-due-tells : (parts : OrchestratorParts) (history : History) (name : List ℕ) (row : RowShown) (view : OrchestratorView) (items : List Item) → IsReady parts history name row view items → (answer : Option Frame → Answer)
    → Tells history (all_rows_moved parts answer (row_sends_due parts.last row)) (send_due history name answer items)
sends-due-tells parts history name row view items ready answer =
    subst (λ d. Tells history (all_rows_moved parts answer (row_sends_due parts.last row)) (sent_as name answer items d (next_number (last_number history)))) (sym (due-there parts history name row view items ready))
    (subst (λ l. Tells history (all_rows_moved parts answer (row_sends_due parts.last row)) (sent_as name answer items (due_in row) (next_number l))) (sym ready.old_last)
    (by (due_in row) refl (next_number parts.last) refl))
  where
    by : (d : Option Due) → due_in row ≡ d → (n : Option Number) → next_number parts.last ≡ n → Tells history (all_rows_moved parts answer (row_moved row (outgoing_by d n))) (sent_as name answer items d n)
    by None e n f = ((refl, then-dropped parts history name row view items ready), ready.guarded)
    by (Some due) e None f = (refl, tt)
    by (Some due) e (Some number) f = ((refl, then-sent parts history name row view items due number ready e f), (may-issue parts history name row view items due ready e, ready.guarded))
