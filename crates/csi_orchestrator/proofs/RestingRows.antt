-- Where a use or a delete is answered with no call, it is so already, and all stays as it was.
use Rattle.csi_orchestrator.proofs.Words.{◌≡◌, ℕ, List, false, refl, sym, ◌∙◌, ap, subst, Option, Some, None, is_none}
use Rattle.csi_orchestrator.proofs.Words.{Result, Ok, Err, IfOk, FirstAt, Number, Frame, same_text, OrchFault, Usage}
use Rattle.csi_orchestrator.proofs.Words.{Outgoing, Step, Due, Input, ToUse, ToDelete, Sends, RowShown}
use Rattle.csi_orchestrator.proofs.Words.{OrchestratorParts, row_of, due_in, MovedRows, put, outgoing_frame}
use Rattle.csi_orchestrator.proofs.Words.{last_after, parts_after, all_rows_moved, steps_at, row_moves, IsMoveOf}
use Rattle.csi_orchestrator.proofs.Words.{step_refusal, MovedRow, outgoing_by, row_moved, row_unless, is_step_met}
use Rattle.csi_orchestrator.proofs.Words.{waits, row_before_call, row_step, arith}
use Rattle.csi_orchestrator.proofs.Lemmas.{false≢true}
use Rattle.csi_orchestrator.specs.declared.step.Step.TheVariants as steps
use Rattle.csi_orchestrator.proofs.DueAfterStep.{due-used}
use Rattle.csi_orchestrator.proofs.DueCases.{removing}
use Rattle.csi_orchestrator.proofs.EntryRules.{by_if}
use Rattle.csi_orchestrator.proofs.PutPlaces.{find-first, put-same}
use Rattle.csi_orchestrator.proofs.BeginningsAgree.{same-parts}
use Rattle.csi_orchestrator.proofs.RowViews.{own-name}

-- ---- one row

-- where nothing is sent the row is as it was
abbrev RowRests : RowShown → Result MovedRow OrchFault → Type 0
RowRests row (Ok moved_row) = moved_row.outgoing ≡ None → moved_row.row ≡ row
RowRests row (Err fault) = Unit {0}

-- unless it is refused
unless-rests : (row : RowShown) (fault : Option OrchFault) (moved : Result MovedRow OrchFault) → (fault ≡ None → RowRests row moved) → RowRests row (row_unless fault moved)
unless-rests row None moved rests = rests refl
unless-rests row (Some fault) moved rests = tt

-- where a call is due, one is sent
sends-some : (row then : RowShown) (due : Option Due) (number : Option Number) → is_none due ≡ false → RowRests row (row_moved then (outgoing_by due number))
sends-some row then due number some = grind (arith, false≢true)

-- a step for which a call is due unless it is met
step-rests : (nodes : List (List ℕ)) (last : Number) (step : Step) (row : RowShown) → waits step row ≡ false
    → (step_refusal nodes last step row ≡ None → is_step_met step row ≡ false → is_none (due_in (row_before_call step row)) ≡ false) → RowRests row (row_step nodes last step row)
step-rests nodes last step row goes due = grind (arith, unless-rests, by_if, false≢true, sends-some)

-- a use
use-rests : (nodes : List (List ℕ)) (last : Number) (usage : Usage) (row : RowShown) → RowRests row (row_step nodes last (steps.Use usage) row)
use-rests nodes last usage row = step-rests nodes last (steps.Use usage) row refl (λ free unmet. ap is_none (due-used usage row) ∙ unmet)

-- a delete: what has an id and may be there has its deletion due
delete-rests : (nodes : List (List ℕ)) (last : Number) (row : RowShown) → RowRests row (row_step nodes last steps.Delete row)
delete-rests nodes last row = grind (arith, step-rests, removing)

-- ---- all rows

-- where no call is sent all is as it was
abbrev AllRest : OrchestratorParts → Result MovedRows OrchFault → Type 0
AllRest parts (Ok moved_rows) = moved_rows.answer ≡ Sends None → moved_rows.parts ≡ parts
AllRest parts (Err fault) = Unit {0}

-- by the row
all-rest : (parts : OrchestratorParts) (row : RowShown) (place : ℕ) → FirstAt (λ (r : RowShown). same_text r.name row.name) parts.rows place row → (moved : Result MovedRow OrchFault) → RowRests row moved
    → AllRest parts (all_rows_moved parts Sends moved)
all-rest parts row place first (Err fault) rests = tt
all-rest parts row place first (Ok moved_row) rests = λ quiet.
    let none = nothing moved_row.outgoing quiet in
    same-parts (parts_after parts moved_row) parts refl (ap (last_after parts.last) none) (ap (λ r. put r parts.rows) (rests none) ∙ put-same (λ (r : RowShown). r.name) parts.rows place row first)
  where
    clash : (frame : Frame) → Sends (Some frame) ≡ Sends None → ⊥
    clash frame e = cc

    nothing : (next : Option Outgoing) → Sends (outgoing_frame next) ≡ Sends None → next ≡ None
    nothing None e = refl
    nothing (Some next) e = absurd (clash next.frame e)

-- a step of the row of a name, if it has one
rests-there : (parts : OrchestratorParts) (step : Step) (name : List ℕ) → ((row : RowShown) → RowRests row (row_step parts.nodes parts.last step row)) → (o : Option RowShown) → row_of parts.rows name ≡ o
    → AllRest parts (steps_at parts Sends step o)
rests-there parts step name rests None e = tt
rests-there parts step name rests (Some row) e =
    let first = find-first (λ (r : RowShown). same_text r.name name) parts.rows row e in
    let own = own-name parts name row e in
    all-rest parts row first.0 (subst (λ (n : List ℕ). FirstAt (λ (r : RowShown). same_text r.name n) parts.rows first.0 row) (sym own) first.1) (row_step parts.nodes parts.last step row) (rests row)

-- a use or a delete
abbrev pub MayBeMet : Input → Type 0
MayBeMet (ToUse name usage) = Unit {0}
MayBeMet (ToDelete name) = Unit {0}
MayBeMet input = ⊥

-- whichever it is
moves-rest : (parts : OrchestratorParts) (input : Input) → MayBeMet input → AllRest parts (row_moves parts input)
moves-rest parts (ToUse name usage) may = rests-there parts (steps.Use usage) name (use-rests parts.nodes parts.last usage) (row_of parts.rows name) refl
moves-rest parts (ToDelete name) may = rests-there parts steps.Delete name (delete-rests parts.nodes parts.last) (row_of parts.rows name) refl
moves-rest parts input may = absurd may

-- so it is with what a call is told by
pub rests-promised : {old now new : OrchestratorParts} {input : Input} {result : Result (Option Frame) OrchFault} → old ≡ now → MayBeMet input → IsMoveOf old new input Sends result
    → IfOk result (λ sent. sent ≡ None → new ≡ now)
rests-promised {old = old} {now = now} {new = new} {input = input} {result = Err fault} is may told = tt
rests-promised {old = old} {now = now} {new = new} {input = input} {result = Ok sent} is may told = λ none. subst (AllRest old) told.ok (moves-rest old input may) (ap Sends none) ∙ is
