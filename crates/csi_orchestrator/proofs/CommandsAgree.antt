-- Why the rows tell what the history tells of a command.
use Rattle.csi_orchestrator.proofs.Words.{◌≡◌, ℕ, List, [], ◌∷◌, Bool, true, false, cond, not, refl, sym, ◌∙◌, ap}
use Rattle.csi_orchestrator.proofs.Words.{subst, Option, Some, None, is_some, is_none, option_and_then, Result, Ok, Err}
use Rattle.csi_orchestrator.proofs.Words.{Frame, same_text, OrchFault, Use, Stop, Delete, Exists, is_yes, is_no}
use Rattle.csi_orchestrator.proofs.Words.{Arguments, Noted, History, known, IsWellFormed, create_fault, use_fault}
use Rattle.csi_orchestrator.proofs.Words.{use_room_fault, stop_fault, delete_fault, delete_busy_fault, Answer, Sends}
use Rattle.csi_orchestrator.proofs.Words.{Moved, met_already, send_due, command, use_when, delete_when, after_noted}
use Rattle.csi_orchestrator.proofs.Words.{RowShown, OrchestratorParts, row_of, open_in_row, orchestrator_view, Shows}
use Rattle.csi_orchestrator.proofs.Words.{wanted_row, new_row, row_wanted_anew, with_entry, first_fault, again_fault}
use Rattle.csi_orchestrator.proofs.Words.{use_refusal, room_refusal, stop_refusal, delete_refusal, busy_refusal, due_by}
use Rattle.csi_orchestrator.proofs.Words.{MovedRow, row_sends_due, row_rests, row_unless, row_takes, all_rows_moved}
use Rattle.csi_orchestrator.proofs.Words.{steps_at, creates, IsSoundRow, AreSoundRows, AreSteadyRowsIf}
use Rattle.csi_orchestrator.proofs.Lemmas.{or_parts, none-from_is_some}
use Rattle.csi_orchestrator.specs.declared.fault.OrchFault.TheVariants as faults
use Rattle.csi_orchestrator.specs.declared.step.Step.TheVariants as steps
use Rattle.csi_orchestrator.specs.Model.History.{Usage, Goal}
use Rattle.csi_orchestrator.specs.Model.History as wishes
use Rattle.csi_orchestrator.proofs.ViewsFollow.{noted-follows}
use Rattle.csi_orchestrator.proofs.SendingAgrees.{Tells, sends-due-tells}
use Rattle.csi_orchestrator.proofs.StepsSound.{MaySendDue, first-held, use-free, changed-may, new-may}
use Rattle.csi_orchestrator.proofs.RulesStay.{found-kept}
use Rattle.csi_orchestrator.proofs.RowsAfterNotes.{no-call, reads-wanted, reads-anew, reads-new, reads-with-entry}
use Rattle.csi_orchestrator.proofs.RefusalsRead.{create-first, create-again, use-unknown, use-refused, room-refused, use-due, stop-unknown, stop-refused, delete-unknown, delete-refused, busy-refused}
use Rattle.csi_orchestrator.proofs.RowViews.{Reads, same-self, same-noted, put-agrees, row-reads, own-name}

-- rows that are kept and agree with a history
pub record AreRight (parts : OrchestratorParts) (history : History) : Type 0 where
  pub form : IsWellFormed history
  pub kept : AreSoundRows parts.rows
  pub steady : AreSteadyRowsIf (Unit {0}) parts.rows
  pub agrees : Shows parts history

-- the row of a name among them
pub record IsFound (parts : OrchestratorParts) (history : History) (name : List ℕ) (row : RowShown) : Type 0 where
  pub right : AreRight parts history
  pub found : row_of parts.rows name ≡ Some row

-- the row that is found is kept as an orchestrator keeps it
pub own-kept : (parts : OrchestratorParts) (history : History) (name : List ℕ) (row : RowShown) → IsFound parts history name row → IsSoundRow row
own-kept parts history name row at = found-kept (λ (r : RowShown). same_text r.name name) parts.rows row (at.right).kept at.found

-- it tells what is shown of its name
pub own-reads : (parts : OrchestratorParts) (history : History) (name : List ℕ) (row : RowShown) → IsFound parts history name row → Reads row (orchestrator_view parts) name
own-reads parts history name row at = row-reads parts name row (own-name parts name row at.found) at.found

-- two answers by one test
pub either-tells : (parts : OrchestratorParts) (history : History) (answer : Option Frame → Answer) (b : Bool) (x y : Result MovedRow OrchFault) (m n : Result Moved OrchFault) → (b ≡ true → Tells history (all_rows_moved parts answer x) m)
    → (b ≡ false → Tells history (all_rows_moved parts answer y) n) → Tells history (all_rows_moved parts answer (cond b x y)) (cond b m n)
either-tells parts history answer true x y m n f g = f refl
either-tells parts history answer false x y m n f g = g refl

-- what is met already leaves the row
met-tells : (parts : OrchestratorParts) (history : History) (name : List ℕ) (row : RowShown) → IsFound parts history name row → Tells history (all_rows_moved parts Sends (row_rests row)) (Ok met_already)
met-tells parts history name row at =
    let agrees = (at.right).agrees in
    ((refl, put-agrees parts parts.last name row (orchestrator_view parts) history (own-reads parts history name row at) (λ other differs. same-self (orchestrator_view parts) other) refl refl agrees), tt)

-- unless it is refused, something is noted, and the due call is sent
command-tells : (parts : OrchestratorParts) (history : History) (name : List ℕ) (goal : Goal) (fault : Option OrchFault) (result : Result MovedRow OrchFault)
    → (fault ≡ None → Tells history (all_rows_moved parts Sends result) (send_due history name Sends (Noted name (Some goal) ∷ []))) → Tells history (all_rows_moved parts Sends (row_unless fault result)) (command history name goal fault)
command-tells parts history name goal None result f = f refl
command-tells parts history name goal (Some fault) result f = (refl, tt)

-- something was noted for a name without an open call, and its row's due call is sent
noted-tells : (parts : OrchestratorParts) (history : History) (name : List ℕ) (goal : Goal) (row : RowShown) → AreRight parts history → (orchestrator_view parts).open_calls name ≡ None
    → Reads row (after_noted name (Some goal) (orchestrator_view parts)) name → MaySendDue row
    → Tells history (all_rows_moved parts Sends (row_sends_due parts.last row)) (send_due history name Sends (Noted name (Some goal) ∷ []))
noted-tells parts history name goal row right quiet reads may_send =
    sends-due-tells parts history name row (after_noted name (Some goal) (orchestrator_view parts)) (Noted name (Some goal) ∷ [])
    (record {
      form = (tt, right.form);
      agrees = noted-follows (orchestrator_view parts) history name (Some goal) right.agrees;
      reads = reads;
      others = λ other differs. same-noted name (Some goal) (orchestrator_view parts) other differs;
      same_nodes = refl;
      same_last = refl;
      old_last = sym (right.agrees).same_last;
      quiet = quiet;
      may_send = may_send;
      guarded = tt;
    }) Sends

-- a name whose row has no goal has no open call
idle-quiet : (parts : OrchestratorParts) (name : List ℕ) (row : RowShown) → row_of parts.rows name ≡ Some row → row.goal ≡ None → (orchestrator_view parts).open_calls name ≡ None
idle-quiet parts name row e idle = ap (option_and_then open_in_row) e ∙ no-call row idle

-- a create
pub creates-tell : (parts : OrchestratorParts) (history : History) (name : List ℕ) (arguments : Arguments) → AreRight parts history → (o : Option RowShown) → row_of parts.rows name ≡ o
    → Tells history (creates parts name arguments o) (command history name (wishes.Create arguments) (create_fault history name))
creates-tell parts history name arguments right None e =
    subst (λ f. Tells history (creates parts name arguments None) (command history name (wishes.Create arguments) f)) (sym (create-first parts history name right.kept right.agrees e))
    (command-tells parts history name (wishes.Create arguments) (first_fault parts.last parts.rows) (row_sends_due parts.last (new_row name arguments))
    (λ free. noted-tells parts history name (wishes.Create arguments) (new_row name arguments) right (ap (option_and_then open_in_row) e) (reads-new arguments parts name e) (new-may name arguments)))
creates-tell parts history name arguments right (Some row) e =
    let at : IsFound parts history name row = record { right = right; found = e } in
    subst (λ f. Tells history (creates parts name arguments (Some row)) (command history name (wishes.Create arguments) f)) (sym (create-again parts history name row right.kept right.agrees e))
    (command-tells parts history name (wishes.Create arguments) (again_fault parts.last row) (row_sends_due parts.last (row_wanted_anew arguments row))
    (λ free.
    let quiet = idle-quiet parts name row e (none-from_is_some row.goal (or_parts (is_some row.id) (is_some row.goal) (first-held _ _ _ free).0).1) in
    noted-tells parts history name (wishes.Create arguments) (row_wanted_anew arguments row) right quiet (reads-anew arguments row (orchestrator_view parts) name (own-reads parts history name row at) quiet)
    (changed-may parts.nodes parts.last (steps.Create arguments) row (own-kept parts history name row at) tt free)))

-- a use
use-when-tells : (parts : OrchestratorParts) (history : History) (name : List ℕ) (usage : Usage) (row : RowShown) → IsFound parts history name row → (fault : Option OrchFault) → use_refusal parts.nodes usage row ≡ fault
    → Tells history (all_rows_moved parts Sends (row_unless fault (row_takes parts.last (steps.Use usage) row))) (use_when history name usage fault)
use-when-tells parts history name usage row at (Some fault) free = (refl, tt)
use-when-tells parts history name usage row at None none =
    let right = at.right in
    let free = use-free parts.nodes usage row none in
    let quiet = idle-quiet parts name row at.found free.idle in
    let on = row_sends_due parts.last (wanted_row (Use usage) (with_entry usage row)) in
    let takes = row_takes parts.last (steps.Use usage) row in
    subst (λ d. Tells history (all_rows_moved parts Sends takes) (cond (is_none d) (Ok met_already) (command history name (wishes.Use usage) (use_room_fault history name usage)))) (sym (use-due parts history name usage row right.kept right.agrees at.found))
    (either-tells parts history Sends (is_none (due_by row (Some (Use usage)))) (row_rests row) (row_unless (room_refusal parts.last usage row) on) _ _ (λ is. met-tells parts history name row at)
    (λ is.
    subst (λ f. Tells history (all_rows_moved parts Sends (row_unless (room_refusal parts.last usage row) on)) (command history name (wishes.Use usage) f))
    (sym (room-refused parts history name usage row right.kept right.agrees at.found))
    (command-tells parts history name (wishes.Use usage) (room_refusal parts.last usage row) on
    (λ room.
    noted-tells parts history name (wishes.Use usage) (wanted_row (Use usage) (with_entry usage row)) right quiet
    (reads-wanted (Use usage) (with_entry usage row) (orchestrator_view parts) name (reads-with-entry usage row (orchestrator_view parts) name free.idle (own-reads parts history name row at)) quiet)
    (changed-may parts.nodes parts.last (steps.Use usage) row (own-kept parts history name row at) tt none)))))

-- the same, whether the name has a row or not
pub uses-tell : (parts : OrchestratorParts) (history : History) (name : List ℕ) (usage : Usage) → AreRight parts history → (o : Option RowShown) → row_of parts.rows name ≡ o
    → Tells history (steps_at parts Sends (steps.Use usage) o) (use_when history name usage (use_fault history name usage))
uses-tell parts history name usage right None e =
    subst (λ f. Tells history (Err faults.NoSuchVolume) (use_when history name usage f)) (sym (use-unknown parts history name usage right.kept right.agrees e)) (refl, tt)
uses-tell parts history name usage right (Some row) e =
    subst (λ f. Tells history (steps_at parts Sends (steps.Use usage) (Some row)) (use_when history name usage f)) (sym (use-refused parts history name usage row right.kept right.agrees e))
    (use-when-tells parts history name usage row (record { right = right; found = e }) (use_refusal parts.nodes usage row) refl)

-- a stop
pub stops-tell : (parts : OrchestratorParts) (history : History) (name node target : List ℕ) → AreRight parts history → (o : Option RowShown) → row_of parts.rows name ≡ o
    → Tells history (steps_at parts Sends (steps.Stop node target) o) (command history name (wishes.Stop node target) (stop_fault history name node target))
stops-tell parts history name node target right None e =
    subst (λ f. Tells history (Err faults.NoSuchVolume) (command history name (wishes.Stop node target) f)) (sym (stop-unknown parts history name node target right.kept right.agrees e)) (refl, tt)
stops-tell parts history name node target right (Some row) e =
    let at : IsFound parts history name row = record { right = right; found = e } in
    subst (λ f. Tells history (steps_at parts Sends (steps.Stop node target) (Some row)) (command history name (wishes.Stop node target) f)) (sym (stop-refused parts history name node target row right.kept right.agrees e))
    (command-tells parts history name (wishes.Stop node target) (stop_refusal parts.nodes parts.last node target row) (row_sends_due parts.last (wanted_row (Stop node target) row))
    (λ free.
    let busy = first-held (is_some row.goal) faults.Busy _ (first-held (not (is_yes row.exists)) faults.NotCreated _ free).1 in
    let quiet = idle-quiet parts name row e (none-from_is_some row.goal busy.0) in
    noted-tells parts history name (wishes.Stop node target) (wanted_row (Stop node target) row) right quiet (reads-wanted (Stop node target) row (orchestrator_view parts) name (own-reads parts history name row at) quiet)
    (changed-may parts.nodes parts.last (steps.Stop node target) row (own-kept parts history name row at) tt free)))

-- a delete
delete-when-tells : (parts : OrchestratorParts) (history : History) (name : List ℕ) (row : RowShown) → IsFound parts history name row → (fault : Option OrchFault) → delete_refusal row ≡ fault
    → Tells history (all_rows_moved parts Sends (row_unless fault (row_takes parts.last steps.Delete row))) (delete_when history name fault)
delete-when-tells parts history name row at (Some fault) free = (refl, tt)
delete-when-tells parts history name row at None free =
    let right = at.right in
    let reads = own-reads parts history name row at in
    let is : row.exists ≡ known history (Exists name) = reads.marks (Exists name) refl ∙ (right.agrees).same_marks (Exists name) in
    let on = row_sends_due parts.last (wanted_row Delete row) in
    let takes = row_takes parts.last steps.Delete row in
    subst (λ k. Tells history (all_rows_moved parts Sends takes) (cond (is_no k) (Ok met_already) (command history name wishes.Delete (delete_busy_fault history name)))) is
    (either-tells parts history Sends (is_no row.exists) (row_rests row) (row_unless (busy_refusal parts.last row) on) _ _ (λ gone. met-tells parts history name row at)
    (λ there.
    subst (λ f. Tells history (all_rows_moved parts Sends (row_unless (busy_refusal parts.last row) on)) (command history name wishes.Delete f)) (sym (busy-refused parts history name row right.kept right.agrees at.found))
    (command-tells parts history name wishes.Delete (busy_refusal parts.last row) on
    (λ idle.
    let quiet = idle-quiet parts name row at.found (none-from_is_some row.goal (first-held (is_some row.goal) faults.Busy _ idle).0) in
    noted-tells parts history name wishes.Delete (wanted_row Delete row) right quiet (reads-wanted Delete row (orchestrator_view parts) name reads quiet)
    (changed-may parts.nodes parts.last steps.Delete row (own-kept parts history name row at) tt free)))))

-- the same, whether the name has a row or not
pub deletes-tell : (parts : OrchestratorParts) (history : History) (name : List ℕ) → AreRight parts history → (o : Option RowShown) → row_of parts.rows name ≡ o
    → Tells history (steps_at parts Sends steps.Delete o) (delete_when history name (delete_fault history name))
deletes-tell parts history name right None e =
    subst (λ f. Tells history (Err faults.NoSuchVolume) (delete_when history name f)) (sym (delete-unknown parts history name right.kept right.agrees e)) (refl, tt)
deletes-tell parts history name right (Some row) e =
    subst (λ f. Tells history (steps_at parts Sends steps.Delete (Some row)) (delete_when history name f)) (sym (delete-refused parts history name row right.kept right.agrees e))
    (delete-when-tells parts history name row (record { right = right; found = e }) (delete_refusal row) refl)
