-- What becomes of the rows where an input comes. What is defined input by input (`RowMoves.antt`) is opened here alone.
use Rattle.csi_orchestrator.proofs.Words.{◌≡◌, ◌⊎◌, ℕ, List, refl, inl, inr, Option, Some, None, Result, Ok, Err, Kind}
use Rattle.csi_orchestrator.proofs.Words.{Body, Reply, Frame, same_text, IsAmong, Ignored, OrchFault, Step, Arguments}
use Rattle.csi_orchestrator.proofs.Words.{Input, ToCreate, ToUse, ToStop, ToDelete, TimesOut, Comes, Restarts, Loses}
use Rattle.csi_orchestrator.proofs.Words.{Answer, Sends, Hears, Restarted, GivenUp, hears, RowShown, OrchestratorParts}
use Rattle.csi_orchestrator.proofs.Words.{row_of, open_in_row, restart_refusal, restarted_parts, loss_refusal}
use Rattle.csi_orchestrator.proofs.Words.{parts_at_loss, MovedRows, moved_rows, IsSoundRow, AreSoundRows, IsDueSuccess}
use Rattle.csi_orchestrator.proofs.Words.{new_row, outgoing_frame, parts_after, all_rows_moved, steps_at, creates}
use Rattle.csi_orchestrator.proofs.Words.{is_issued_as, row_replied, step_heard, hears_reply, receives, moved_unless}
use Rattle.csi_orchestrator.proofs.Words.{row_moves, first_fault, MovedRow, row_sends_due, row_unless, row_step}
use Rattle.csi_orchestrator.proofs.Lemmas.{each_of, among-find, find-passes}
use Rattle.csi_types.specs.declared.frame.Body.TheVariants as bodies
use Rattle.csi_orchestrator.specs.declared.fault.OrchFault.TheVariants as faults
use Rattle.csi_orchestrator.specs.declared.step.Step.TheVariants as steps
use Rattle.csi_orchestrator.proofs.StepsSound.{heard-fits}

-- a step that no reply brings
abbrev pub IsAsked : Step → Type 0
IsAsked (steps.Succeed kind id) = ⊥
IsAsked step = Unit {0}

-- one that a reply brings
pub record IsBrought (input : Input) (step : Step) : Type 0 where
  pub frame : Frame
  pub kind : Kind
  pub reply : Reply
  pub came : input ≡ Comes frame
  pub body : frame.body ≡ bodies.Reply kind reply
  pub is : step ≡ step_heard kind reply

-- the input asks for the step, or brings it
abbrev pub IsStepOf : Input → Step → Type 0
IsStepOf input step = IsAsked step ⊎ IsBrought input step

-- the input is refused; its frame is ignored; a row takes a step; a new row is put in, and its due call sent; or a session begins
pub data IsRowMove (parts : OrchestratorParts) (input : Input) : Result MovedRows OrchFault → Type 0 where
  IsRefused : (fault : OrchFault) → IsRowMove parts input (Err fault)
  IsIgnored : IsRowMove parts input (moved_rows parts (Hears Ignored))
  TakesStep : (answer : Option Frame → Answer) (step : Step) (row : RowShown) (moved_row : MovedRow) → IsAmong row parts.rows → IsStepOf input step → IsDueSuccess step row → row_step parts.nodes parts.last step row ≡ Ok moved_row
      → IsRowMove parts input (moved_rows (parts_after parts moved_row) (answer (outgoing_frame moved_row.outgoing)))
  PutsIn : (name : List ℕ) (arguments : Arguments) (moved_row : MovedRow) → first_fault parts.last parts.rows ≡ None → row_sends_due parts.last (new_row name arguments) ≡ Ok moved_row
      → IsRowMove parts input (moved_rows (parts_after parts moved_row) (Sends (outgoing_frame moved_row.outgoing)))
  StartsAgain : (nodes : List (List ℕ)) → input ≡ Restarts nodes → restart_refusal parts.last.session parts.nodes nodes parts.rows ≡ None → IsRowMove parts input (moved_rows (restarted_parts nodes parts) Restarted)
  GivesUp : (node : List ℕ) → input ≡ Loses node → IsRowMove parts input (moved_rows (parts_at_loss node parts) GivenUp)

-- a row takes a step, unless it is refused
step-moved : (parts : OrchestratorParts) (input : Input) (answer : Option Frame → Answer) (step : Step) (row : RowShown) → IsAmong row parts.rows → IsStepOf input step → IsDueSuccess step row → IsRowMove parts input (steps_at parts answer step (Some row))
step-moved parts input answer step row among of fits = by (row_step parts.nodes parts.last step row) refl
  where
    by : (result : Result MovedRow OrchFault) → row_step parts.nodes parts.last step row ≡ result → IsRowMove parts input (all_rows_moved parts answer result)
    by (Err fault) e = IsRefused fault
    by (Ok moved_row) e = TakesStep answer step row moved_row among of fits e

-- what is asked of a name, whether it has a row or not
asked-moved : (parts : OrchestratorParts) (input : Input) (step : Step) (name : List ℕ) → IsAsked step → ((row : RowShown) → IsDueSuccess step row) → (o : Option RowShown) → row_of parts.rows name ≡ o → IsRowMove parts input (steps_at parts Sends step o)
asked-moved parts input step name asked fits None e = IsRefused faults.NoSuchVolume
asked-moved parts input step name asked fits (Some row) e = step-moved parts input Sends step row (among-find (λ (r : RowShown). same_text r.name name) parts.rows row e) (inl asked) (fits row)

-- a create
create-moved : (parts : OrchestratorParts) (input : Input) (name : List ℕ) (arguments : Arguments) → (o : Option RowShown) → row_of parts.rows name ≡ o → IsRowMove parts input (creates parts name arguments o)
create-moved parts input name arguments (Some row) e = asked-moved parts input (steps.Create arguments) name tt (λ row. tt) (Some row) e
create-moved parts input name arguments None e = by (first_fault parts.last parts.rows) refl
  where
    at : first_fault parts.last parts.rows ≡ None → (result : Result MovedRow OrchFault) → row_sends_due parts.last (new_row name arguments) ≡ result → IsRowMove parts input (all_rows_moved parts Sends result)
    at free (Err fault) e = IsRefused fault
    at free (Ok moved_row) e = PutsIn name arguments moved_row free e

    by : (fault : Option OrchFault) → first_fault parts.last parts.rows ≡ fault → IsRowMove parts input (all_rows_moved parts Sends (row_unless fault (row_sends_due parts.last (new_row name arguments))))
    by (Some fault) e = IsRefused fault
    by None e = at e (row_sends_due parts.last (new_row name arguments)) refl

-- a reply, and the row that it is to, if there is one
reply-moved : (parts : OrchestratorParts) (frame : Frame) (kind : Kind) (reply : Reply) → AreSoundRows parts.rows → frame.body ≡ bodies.Reply kind reply → (o : Option RowShown) → row_replied parts.rows frame.number frame.party kind ≡ o
    → IsRowMove parts (Comes frame) (hears_reply parts kind reply o)
reply-moved parts frame kind reply sound body None e = IsIgnored
reply-moved parts frame kind reply sound body (Some row) e =
    let issued = λ (r : RowShown). is_issued_as frame.number frame.party kind (open_in_row r) in
    let among = among-find issued parts.rows row e in
    step-moved parts (Comes frame) hears (step_heard kind reply) row among (inr (record { frame = frame; kind = kind; reply = reply; came = refl; body = body; is = refl }))
    (heard-fits row frame.number frame.party kind reply (find-passes issued parts.rows row e) (each_of IsSoundRow parts.rows row sound.each among))

-- each input
pub row-moved : (parts : OrchestratorParts) (input : Input) → AreSoundRows parts.rows → IsRowMove parts input (row_moves parts input)
row-moved parts (ToCreate name arguments) sound = create-moved parts (ToCreate name arguments) name arguments (row_of parts.rows name) refl
row-moved parts (ToUse name usage) sound = asked-moved parts (ToUse name usage) (steps.Use usage) name tt (λ row. tt) (row_of parts.rows name) refl
row-moved parts (ToStop name node target) sound = asked-moved parts (ToStop name node target) (steps.Stop node target) name tt (λ row. tt) (row_of parts.rows name) refl
row-moved parts (ToDelete name) sound = asked-moved parts (ToDelete name) steps.Delete name tt (λ row. tt) (row_of parts.rows name) refl
row-moved parts (TimesOut name) sound = asked-moved parts (TimesOut name) steps.TimeOut name tt (λ row. tt) (row_of parts.rows name) refl
row-moved parts (Comes frame) sound = by frame.body refl
  where
    by : (body : Body) → frame.body ≡ body → IsRowMove parts (Comes frame) (receives parts frame.number frame.party body)
    by (bodies.Call call) e = IsIgnored
    by (bodies.Reply kind reply) e = reply-moved parts frame kind reply sound e (row_replied parts.rows frame.number frame.party kind) refl
row-moved parts (Restarts nodes) sound = by (restart_refusal parts.last.session parts.nodes nodes parts.rows) refl
  where
    by : (fault : Option OrchFault) → restart_refusal parts.last.session parts.nodes nodes parts.rows ≡ fault → IsRowMove parts (Restarts nodes) (moved_unless fault (restarted_parts nodes parts) Restarted)
    by (Some fault) e = IsRefused fault
    by None e = StartsAgain nodes refl e
row-moved parts (Loses node) sound = by (loss_refusal parts.last.session)
  where
    by : (fault : Option OrchFault) → IsRowMove parts (Loses node) (moved_unless fault (parts_at_loss node parts) GivenUp)
    by (Some fault) = IsRefused fault
    by None = GivesUp node refl
