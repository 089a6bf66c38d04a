-- What is asked of a volume or comes for it, what it makes of the volume's row, and what is sent then. This profile's own.
-- `RowMoves.antt` says what becomes of all the rows.
use Rattle.std.specs.Prelude.{◌≡◌, ◌==◌, List, ℕ, Bool, true, false, ◌&&◌, Option, Some, None, is_none, if◌then◌else◌, Result, Ok, Err, IsOk, IfOk, IfErr, OnErr}
use Rattle.csi_types.specs.declared.number.Number.{Number}
use Rattle.csi_types.specs.Model.Call.{kind_of}
use Rattle.csi_types.specs.Model.Replies.{call_frame}
use Rattle.csi_orchestrator.specs.declared.fault.OrchFault.{OrchFault}
use Rattle.csi_orchestrator.specs.declared.fault.OrchFault.TheVariants as faults
use Rattle.csi_orchestrator.specs.declared.row.Goal.{Goal}
use Rattle.csi_orchestrator.specs.declared.row.Goal.TheVariants.{Create, Use, Stop, Delete}
use Rattle.csi_orchestrator.specs.declared.sending.Outgoing.{Outgoing}
use Rattle.csi_orchestrator.specs.declared.step.Step.{Step}
use Rattle.csi_orchestrator.specs.declared.step.Step.TheVariants as steps
use Rattle.csi_orchestrator.specs.Model.Thing.{is_no}
use Rattle.csi_orchestrator.specs.Model.Commands.{next_number}
use Rattle.csi_orchestrator.specs.Model.Due.{Due}
use Rattle.csi_orchestrator.specs.Model.Moves.{is_forward_due}
use Rattle.csi_orchestrator.specs.Private.RowChanges.{row_once_sent, succeeded_row, wanted_row, row_wanted_anew, dropped_row, stopped_goal, with_entry}
use Rattle.csi_orchestrator.specs.Private.RowRefusals.{step_refusal, late_refusal}
use Rattle.csi_orchestrator.specs.Model.Shown.{RowShown}
use Rattle.csi_orchestrator.specs.Public.RowMoves.{IsRefusal}
use Rattle.csi_orchestrator.specs.Public.Shown.{closed}
use Rattle.csi_orchestrator.specs.Public.RowDue.{due_by, due_in}

-- ---- what is sent

-- the call to send, if one is due and a number is left
abbrev pub outgoing_by : Option Due → Option Number → Result (Option Outgoing) OrchFault
outgoing_by None number = Ok None
outgoing_by (Some due) None = Err faults.NumbersSpent
outgoing_by (Some due) (Some number) = Ok (Some (record { frame = call_frame number due.party due.call; number = number; kind = kind_of due.call }))

-- what became of a row, and what is sent for it
pub record MovedRow : Type 0 where
  pub outgoing : Option Outgoing
  pub row : RowShown

-- the call is sent; where none is due, what was wanted is met and dropped
abbrev pub sent_or_dropped : Option Outgoing → RowShown → RowShown
sent_or_dropped None row = dropped_row row
sent_or_dropped (Some outgoing) row = row_once_sent outgoing.number outgoing.kind row

-- the row after what is to be sent was found, unless that was refused
abbrev pub row_moved : RowShown → Result (Option Outgoing) OrchFault → Result MovedRow OrchFault
row_moved row (Err fault) = Err fault
row_moved row (Ok outgoing) = Ok (record { outgoing = outgoing; row = sent_or_dropped outgoing row })

-- the call that is due for the row's goal is sent
abbrev pub row_sends_due : Number → RowShown → Result MovedRow OrchFault
row_sends_due last row = row_moved row (outgoing_by (due_in row) (next_number last))

-- nothing is sent
abbrev pub row_rests : RowShown → Result MovedRow OrchFault
row_rests row = Ok (record { outgoing = None; row = row })

-- unless it is refused
abbrev pub row_unless : Option OrchFault → Result MovedRow OrchFault → Result MovedRow OrchFault
row_unless (Some fault) result = Err fault
row_unless None result = result

-- ---- what a step makes of a row

-- it is so already: no call is due for it
abbrev pub is_step_met : Step → RowShown → Bool
is_step_met (steps.Use usage) row = is_none (due_by row (Some (Use usage)))
is_step_met steps.Delete row = is_no row.exists
is_step_met step row = false

-- the call that failed is sent again only once it times out
abbrev pub waits_for : Option Goal → Bool
waits_for (Some Create) = false
waits_for (Some (Use usage)) = false
waits_for goal = true

-- the step is such a failure
abbrev pub waits : Step → RowShown → Bool
waits steps.Fail row = waits_for row.goal
waits step row = false

-- only a use needs an entry
abbrev pub needs_entry : Step → Bool
needs_entry (steps.Use usage) = true
needs_entry step = false

-- after a timeout: the use whose call was tried three times is given up
abbrev pub is_given_up : RowShown → Bool
is_given_up row = is_forward_due (due_in row) && (row.tries == 3)

-- the row then, by its goal
abbrev pub timed_out : RowShown → Option Goal → RowShown
timed_out row None = closed row
timed_out row (Some goal) = if is_given_up row then wanted_row (stopped_goal goal) row else closed row

-- after a status other than OK: a use that didn't come about is stopped, and a create is wanted no more
abbrev pub failed : RowShown → Option Goal → RowShown
failed row (Some Create) = record row { goal = None }
failed row (Some (Use usage)) = wanted_row (Stop usage.node usage.target) row
failed row goal = closed row

-- the row before its due call is sent
abbrev pub row_before_call : Step → RowShown → RowShown
row_before_call (steps.Create arguments) row = row_wanted_anew arguments row
row_before_call (steps.Use usage) row = wanted_row (Use usage) (with_entry usage row)
row_before_call (steps.Stop node target) row = wanted_row (Stop node target) row
row_before_call steps.Delete row = wanted_row Delete row
row_before_call steps.TimeOut row = timed_out row row.goal
row_before_call (steps.Succeed kind id) row = succeeded_row kind id row
row_before_call steps.Fail row = failed row row.goal

-- what a step makes of a row, for an orchestrator of these nodes and with this last number: where nothing refuses it at once, and
-- in any case
abbrev pub row_takes : Number → Step → RowShown → Result MovedRow OrchFault
row_takes last step row =
    if is_step_met step row then row_rests row
    else if waits step row then row_rests (closed row)
    else row_unless (late_refusal last step row) (row_sends_due last (row_before_call step row))

-- what a row makes of a step: the reason to refuse it, or what becomes of the row
abbrev pub row_step : List (List ℕ) → Number → Step → RowShown → Result MovedRow OrchFault
row_step nodes last step row = row_unless (step_refusal nodes last step row) (row_takes last step row)

-- nothing is sent
abbrev pub SendsNothing : Result MovedRow OrchFault → Type 0
SendsNothing (Ok moved_row) = moved_row.outgoing ≡ None
SendsNothing (Err fault) = ⊥

-- a call's result is what is told of the row, and a refusal changes nothing; where nothing is sent and no entry is needed, it isn't refused,
-- and for a delete it takes no memory
pub record MovesRow (moved : Result MovedRow OrchFault) (step : Step) (may_lack : Bool) (old new : RowShown) (result : Result (Option Outgoing) OrchFault) : Type 0 where
  pub ok : IfOk result (λ next. moved ≡ Ok (record { outgoing = next; row = new }))
  pub err : IfErr result (IsRefusal moved)
  pub stays : OnErr result (new ≡ old)
  pub quiet : may_lack ≡ false → SendsNothing moved → IsOk result
  pub delete : step ≡ steps.Delete → IfErr result (λ fault. fault ≡ faults.NoMemory → ⊥)
