-- Where the row of a name stands among the kept ones, and what is told by a step of it.
use Rattle.csi_orchestrator.proofs.Words.{◌≡◌, ◌++◌, ℕ, List, [], ◌∷◌, Bool, true, get_or, map, set, refl, sym, ◌∙◌, ap}
use Rattle.csi_orchestrator.proofs.Words.{subst, Option, Some, None, position, slice_get, Result, Ok, Err, IsAt, Number}
use Rattle.csi_orchestrator.proofs.Words.{Frame, same_text, OrchFault, OrchestratorCore, Row, Outgoing, Step, rows_of}
use Rattle.csi_orchestrator.proofs.Words.{orchestrator_parts_shown, Arguments, Input, Answer, Sends, new_row}
use Rattle.csi_orchestrator.proofs.Words.{first_fault, moved_rows, IsRefusal, put, outgoing_frame, last_after}
use Rattle.csi_orchestrator.proofs.Words.{all_rows_moved, steps_at, creates, row_moves, input_asking, RowsAnswer}
use Rattle.csi_orchestrator.proofs.Words.{RowShown, OrchestratorParts, row_of, row_shown, MovedRow, row_sends_due}
use Rattle.csi_orchestrator.proofs.Words.{row_unless, row_step, SendsNothing, arith, IfOk, IfErr, IsMoveOf, MovedRows, TakesStep}
use Rattle.csi_orchestrator.proofs.Lemmas.{map-set_same, position-Some, none-some, same_Some, at-index}
use Rattle.csi_orchestrator.specs.declared.step.Step.TheVariants as steps
use Rattle.csi_orchestrator.proofs.ChangedEntries.{find-place, find-none_placed, put-place, put-none_placed}
use Rattle.csi_orchestrator.proofs.RowsUnderNames.{catalog_with, read-at, parts-set}
use Rattle.csi_orchestrator.proofs.OpenCalls.{GoesOn, step-goes}
use Rattle.csi_orchestrator.proofs.RowViews.{own-name}
use Rattle.csi_orchestrator.proofs.ListPlaces.{get-of_at}

-- the row at the place that a search gives
pub row-at : (p : Row → Bool) (rows : List Row) (i : ℕ) → position p rows ≡ Some i → (row : Row) × (IsAt rows i row × (p row ≡ true))
row-at p [] i at = absurd (none-some i at)
row-at p (x ∷ rows) i at = let found = position-Some p (x ∷ rows) i x at in (get_or (x ∷ rows) i x, (at-index (x ∷ rows) i x found.0, found.1))

-- where none of the kept rows has the name, none of those that are shown has it
pub shown-nowhere : (rows : List Row) (name : List ℕ) → position (λ (row : Row). same_text row.name name) rows ≡ None → row_of (map row_shown rows) name ≡ None
shown-nowhere rows name none = find-none_placed row_shown (λ (row : RowShown). same_text row.name name) rows none

-- the row that is found under a name, as it is kept
pub shown-there : (rows : List Row) (name : List ℕ) (i : ℕ) (r : Row) → position (λ (row : Row). same_text row.name name) rows ≡ Some i → slice_get rows i ≡ Some r
    → row_of (map row_shown rows) name ≡ Some (row_shown r)
shown-there rows name i r at stands = find-place row_shown (λ (row : RowShown). same_text row.name name) rows i r at (read-at rows i r stands)

-- a step is told by the row that stands there
stepped-there : (core : OrchestratorCore) (answer : Option Frame → Answer) (step : Step) (name : List ℕ) (i : ℕ) (r : Row) → position (λ (row : Row). same_text row.name name) (rows_of core.catalog) ≡ Some i
    → slice_get (rows_of core.catalog) i ≡ Some r
    → steps_at (orchestrator_parts_shown core) answer step (row_of (map row_shown (rows_of core.catalog)) name) ≡ all_rows_moved (orchestrator_parts_shown core) answer (row_step core.nodes.items core.last step (row_shown r))
stepped-there core answer step name i r at stands = ap (steps_at (orchestrator_parts_shown core) answer step) (shown-there (rows_of core.catalog) name i r at stands)

-- where the row refuses it, it is refused
pub step-refused : (core : OrchestratorCore) (answer : Option Frame → Answer) (step : Step) (name : List ℕ) (i : ℕ) (r : Row) (fault : OrchFault) → slice_get (rows_of core.catalog) i ≡ Some r
    → IsRefusal (row_step core.nodes.items core.last step (row_shown r)) fault → position (λ (row : Row). same_text row.name name) (rows_of core.catalog) ≡ Some i
    → IsRefusal (steps_at (orchestrator_parts_shown core) answer step (row_of (map row_shown (rows_of core.catalog)) name)) fault
step-refused core answer step name i r fault stands refused at =
    subst (λ t. IsRefusal t fault) (sym (stepped-there core answer step name i r at stands)) (by (row_step core.nodes.items core.last step (row_shown r)) refused)
  where
    by : (t : Result MovedRow OrchFault) → IsRefusal t fault → IsRefusal (all_rows_moved (orchestrator_parts_shown core) answer t) fault
    by (Ok moved_rows) is = is
    by (Err other) is = is

-- where it is told that nothing is sent, the row sends nothing
pub step-quiet : (core : OrchestratorCore) (answer : Option Frame → Answer) (step : Step) (name : List ℕ) (i : ℕ) (r : Row) → slice_get (rows_of core.catalog) i ≡ Some r
    → position (λ (row : Row). same_text row.name name) (rows_of core.catalog) ≡ Some i
    → ((frame : Frame) → answer (Some frame) ≡ answer None → ⊥) → RowsAnswer (answer None) (steps_at (orchestrator_parts_shown core) answer step (row_of (map row_shown (rows_of core.catalog)) name))
    → SendsNothing (row_step core.nodes.items core.last step (row_shown r))
step-quiet core answer step name i r stands at apart told =
    by (row_step core.nodes.items core.last step (row_shown r)) (subst (RowsAnswer (answer None)) (stepped-there core answer step name i r at stands) told)
  where
    none : (next : Option Outgoing) → answer (outgoing_frame next) ≡ answer None → next ≡ None
    none None e = refl
    none (Some next) e = absurd (apart next.frame e)

    by : (t : Result MovedRow OrchFault) → RowsAnswer (answer None) (all_rows_moved (orchestrator_parts_shown core) answer t) → SendsNothing t
    by (Ok moved_row) is = none moved_row.outgoing is
    by (Err fault) is = is

-- where the row takes it, its frame is answered, and the row is shown in its place
pub step-told : (core : OrchestratorCore) (answer : Option Frame → Answer) (step : Step) (name : List ℕ) (i : ℕ) (r s : Row) (next : Option Outgoing) (sends : Option Frame) (after : OrchestratorParts)
    → slice_get (rows_of core.catalog) i ≡ Some r
    → row_step core.nodes.items core.last step (row_shown r) ≡ Ok (record { outgoing = next; row = row_shown s }) → sends ≡ outgoing_frame next
    → after ≡ record { nodes = core.nodes.items; last = last_after core.last next; rows = map row_shown (rows_of (catalog_with core.catalog i s)) }
    → position (λ (row : Row). same_text row.name name) (rows_of core.catalog) ≡ Some i
    → steps_at (orchestrator_parts_shown core) answer step (row_of (map row_shown (rows_of core.catalog)) name) ≡ Ok (record { answer = answer sends; parts = after })
step-told core answer step name i r s next sends after stands is frame then at =
    let rows = rows_of core.catalog in
    let on = subst (GoesOn core.last (row_shown r)) is (step-goes core.nodes.items core.last step (row_shown r)) in
    let own : s.name ≡ name = on.name ∙ own-name (orchestrator_parts_shown core) name (row_shown r) (shown-there rows name i r at stands) in
    let put_there : map row_shown (set rows i s) ≡ put (row_shown s) (map row_shown rows) = put-place row_shown (λ (row : RowShown). row.name) (row_shown s) name rows i r s own at refl in
    stepped-there core answer step name i r at stands ∙ ap (all_rows_moved (orchestrator_parts_shown core) answer) is
    ∙ ap (λ shown. moved_rows (record { nodes = core.nodes.items; last = last_after core.last next; rows = shown }) (answer (outgoing_frame next))) (sym put_there)
    ∙ ap (λ p. moved_rows p (answer (outgoing_frame next))) (sym (then ∙ parts-set core.nodes.items (last_after core.last next) core.catalog i s)) ∙ ap (λ f. moved_rows after (answer f)) (sym frame)

-- a refusal leaves what is shown
pub rows-stay : (core : OrchestratorCore) (i : ℕ) (r s : Row) → slice_get (rows_of core.catalog) i ≡ Some r → row_shown s ≡ row_shown r
    → (let then : OrchestratorParts = record { nodes = core.nodes.items; last = core.last; rows = map row_shown (rows_of (catalog_with core.catalog i s)) } in then) ≡ orchestrator_parts_shown core
rows-stay core i r s stands same =
    parts-set core.nodes.items core.last core.catalog i s
    ∙ ap (λ shown. let then : OrchestratorParts = record { nodes = core.nodes.items; last = core.last; rows = shown } in then)
    (map-set_same row_shown (rows_of core.catalog) i s r (same ∙ ap row_shown (read-at (rows_of core.catalog) i r stands)))

-- what is asked of a name is told by a step
pub asked : (parts : OrchestratorParts) (name : List ℕ) (step : Step) (input : Input) → input_asking name step ≡ Some input → steps_at parts Sends step (row_of parts.rows name) ≡ row_moves parts input
asked parts name step input is = grind (arith, none-some, same_Some)

-- a step that is asked of a name is a move
pub asked-move : {old new : OrchestratorCore} {step : Step} {name : List ℕ} {result : Result (Option Frame) OrchFault} (input : Input) → input_asking name step ≡ Some input → TakesStep old new Sends step name result
    → IsMoveOf (orchestrator_parts_shown old) (orchestrator_parts_shown new) input Sends result
asked-move {old = old} {new = new} {step = step} {name = name} {result = result} input is told =
    let same = asked (orchestrator_parts_shown old) name step input is in
    record {
      ok = subst (λ (t : Result MovedRows OrchFault). IfOk result (λ sent. t ≡ moved_rows (orchestrator_parts_shown new) (Sends sent))) same told.ok;
      err = subst (λ (t : Result MovedRows OrchFault). IfErr result (IsRefusal t)) same told.err;
      stays = told.stays;
    }

-- a frame that is sent is told apart from none
pub sends-apart : (frame : Frame) → Sends (Some frame) ≡ Sends None → ⊥
sends-apart frame e = cc

-- what another create of a name is told by
pub create-asked : (core : OrchestratorCore) (name : List ℕ) (arguments : Arguments) (i : ℕ) → position (λ (row : Row). same_text row.name name) (rows_of core.catalog) ≡ Some i
    → steps_at (orchestrator_parts_shown core) Sends (steps.Create arguments) (row_of (map row_shown (rows_of core.catalog)) name) ≡ creates (orchestrator_parts_shown core) name arguments
    (row_of (map row_shown (rows_of core.catalog)) name)
create-asked core name arguments i at =
    let there = row-at (λ (row : Row). same_text row.name name) (rows_of core.catalog) i at in
    let found = shown-there (rows_of core.catalog) name i there.0 at (get-of_at (rows_of core.catalog) i there.0 there.1.0) in
    ap (steps_at (orchestrator_parts_shown core) Sends (steps.Create arguments)) found ∙ sym (ap (creates (orchestrator_parts_shown core) name arguments) found)

-- the first create of a name
pub first-told : (nodes : List (List ℕ)) (last : Number) (rows : List Row) (name : List ℕ) (arguments : Arguments) (s : Row) (next : Option Outgoing) (sends : Option Frame) (after : OrchestratorParts)
    → position (λ (row : Row). same_text row.name name) rows ≡ None
    → first_fault last (map row_shown rows) ≡ None → row_sends_due last (new_row name arguments) ≡ Ok (record { outgoing = next; row = row_shown s })
    → s.name ≡ name → sends ≡ outgoing_frame next
    → after ≡ record { nodes = nodes; last = last_after last next; rows = map row_shown (rows ++ s ∷ []) }
    → creates (record { nodes = nodes; last = last; rows = map row_shown rows }) name arguments None ≡ Ok (record { answer = Sends sends; parts = after })
first-told nodes last rows name arguments s next sends after none fits is own frame then =
    let parts : OrchestratorParts = record { nodes = nodes; last = last; rows = map row_shown rows } in
    let stands : map row_shown (rows ++ s ∷ []) ≡ put (row_shown s) (map row_shown rows) = put-none_placed row_shown (λ (row : RowShown). row.name) (row_shown s) name rows s own none refl in
    ap (λ fault. all_rows_moved parts Sends (row_unless fault (row_sends_due last (new_row name arguments)))) fits ∙ ap (all_rows_moved parts Sends) is
    ∙ ap (λ shown. moved_rows (record { nodes = nodes; last = last_after last next; rows = shown }) (Sends (outgoing_frame next))) (sym stands)
    ∙ ap (λ p. moved_rows p (Sends (outgoing_frame next))) (sym then) ∙ ap (λ f. moved_rows after (Sends f)) (sym frame)
