-- What an orchestrator answers to each input, and what it shows then, read from its rows alone: a step of one row
-- (`RowSteps.antt`), a new row, or a restart. This profile's own. The law `RowsTell` of `Sound.antt` says that this is what
-- the definitions over histories say.
use Rattle.std.specs.Prelude.{◌≡◌, ℕ, List, find, Bool, false, ◌&&◌, Option, Some, None, if◌then◌else◌, Result, Ok, Err, IsOk, IfOk, IfErr, OnErr, map}
use Rattle.csi_types.specs.declared.number.Number.{Number}
use Rattle.csi_types.specs.declared.call.Kind.{Kind}
use Rattle.csi_types.specs.declared.call.Party.{Party}
use Rattle.csi_types.specs.declared.frame.Body.{Body}
use Rattle.csi_types.specs.declared.frame.Body.TheVariants as bodies
use Rattle.csi_types.specs.declared.reply.Reply.{Reply}
use Rattle.csi_types.specs.Model.Call.{kind_of}
use Rattle.csi_types.specs.Model.Frame.{Frame}
use Rattle.csi_types.specs.Model.Reply.{is_ok_status}
use Rattle.csi_types.specs.Model.Same.{same_number, same_party, same_kind}
use Rattle.csi_orchestrator.specs.declared.fault.Heard.TheVariants.{Ignored}
use Rattle.csi_orchestrator.specs.declared.fault.OrchFault.{OrchFault}
use Rattle.csi_orchestrator.specs.declared.fault.OrchFault.TheVariants as faults
use Rattle.csi_orchestrator.specs.declared.sending.Outgoing.{Outgoing}
use Rattle.csi_orchestrator.specs.declared.state.OrchestratorCore.{OrchestratorCore}
use Rattle.csi_orchestrator.specs.declared.step.Step.{Step}
use Rattle.csi_orchestrator.specs.declared.step.Step.TheVariants.{Create, Use, Stop, Delete, TimeOut, Succeed, Fail}
use Rattle.csi_orchestrator.specs.Model.Thing.{Issued}
use Rattle.csi_orchestrator.specs.Model.History.{Arguments}
use Rattle.csi_orchestrator.specs.Model.Moves.{Input, ToCreate, ToUse, ToStop, ToDelete, TimesOut, Comes, Restarts, Loses, Answer, Sends, Hears, Restarted, GivenUp, hears}
use Rattle.csi_orchestrator.specs.Private.Keyed.{put_by}
use Rattle.csi_orchestrator.specs.Private.RowChanges.{new_row}
use Rattle.csi_orchestrator.specs.Private.RowRefusals.{first_fault}
use Rattle.csi_orchestrator.specs.Private.RowSteps.{MovedRow, row_sends_due, row_unless, row_step}
use Rattle.csi_orchestrator.specs.Model.Shown.{RowShown, OrchestratorParts, row_of, open_in_row}
use Rattle.csi_orchestrator.specs.Public.Beginning.{restart_refusal, restarted_parts, loss_refusal, parts_at_loss}
use Rattle.csi_orchestrator.specs.Public.Catalog.{rows_of}
use Rattle.csi_orchestrator.specs.Public.CoreParts.{orchestrator_parts_shown, IsFiled}
use Rattle.csi_orchestrator.specs.Public.Shown.{row_shown}
use Rattle.csi_orchestrator.specs.Public.RowMoves.{MovedRows, moved_rows, IsRefusal}

-- the row in place of its name's, or last
abbrev pub put : RowShown → List RowShown → List RowShown
put row rows = put_by (λ row. row.name) row rows

-- the frame that is sent, if one is, and the last number then
abbrev pub outgoing_frame : Option Outgoing → Option Frame
outgoing_frame None = None
outgoing_frame (Some outgoing) = Some outgoing.frame

-- the last number once this was sent, if anything was
abbrev pub last_after : Number → Option Outgoing → Number
last_after last None = last
last_after last (Some outgoing) = outgoing.number

-- what is told of all the rows by what becomes of one, unless it is refused
abbrev pub parts_after : OrchestratorParts → MovedRow → OrchestratorParts
parts_after parts moved_row = record { nodes = parts.nodes; last = last_after parts.last moved_row.outgoing; rows = put moved_row.row parts.rows }

-- what becomes of all the rows where this becomes of one, unless that is refused
abbrev pub all_rows_moved : OrchestratorParts → (Option Frame → Answer) → Result MovedRow OrchFault → Result MovedRows OrchFault
all_rows_moved parts answer (Err fault) = Err fault
all_rows_moved parts answer (Ok moved_row) = moved_rows (parts_after parts moved_row) (answer (outgoing_frame moved_row.outgoing))

-- what is told by a step of the row that is found
abbrev pub steps_at : OrchestratorParts → (Option Frame → Answer) → Step → Option RowShown → Result MovedRows OrchFault
steps_at parts answer step None = Err faults.NoSuchVolume
steps_at parts answer step (Some row) = all_rows_moved parts answer (row_step parts.nodes parts.last step row)

-- a create
abbrev pub creates : OrchestratorParts → List ℕ → Arguments → Option RowShown → Result MovedRows OrchFault
creates parts name arguments None = all_rows_moved parts Sends (row_unless (first_fault parts.last parts.rows) (row_sends_due parts.last (new_row name arguments)))
creates parts name arguments (Some row) = steps_at parts Sends (Create arguments) (Some row)

-- the row whose open call has this number, party and kind
abbrev pub is_issued_as : Number → Party → Kind → Option Issued → Bool
is_issued_as number party kind None = false
is_issued_as number party kind (Some issued) = same_number issued.number number && same_party issued.party party && same_kind (kind_of issued.call) kind

-- the row that a reply is to
abbrev pub row_replied : List RowShown → Number → Party → Kind → Option RowShown
row_replied rows number party kind = find (λ row. is_issued_as number party kind (open_in_row row)) rows

-- what comes for the volume whose open call had this reply
abbrev pub step_heard : Kind → Reply → Step
step_heard kind reply = if is_ok_status reply.status then Succeed kind reply.id else Fail

-- a reply, and the row that it is to, if there is one
abbrev pub hears_reply : OrchestratorParts → Kind → Reply → Option RowShown → Result MovedRows OrchFault
hears_reply parts kind reply None = moved_rows parts (Hears Ignored)
hears_reply parts kind reply (Some row) = steps_at parts hears (step_heard kind reply) (Some row)

-- a frame
abbrev pub receives : OrchestratorParts → Number → Party → Body → Result MovedRows OrchFault
receives parts number party (bodies.Call call) = moved_rows parts (Hears Ignored)
receives parts number party (bodies.Reply kind reply) = hears_reply parts kind reply (row_replied parts.rows number party kind)

-- unless it is refused, these are the parts then
abbrev pub moved_unless : Option OrchFault → OrchestratorParts → Answer → Result MovedRows OrchFault
moved_unless (Some fault) parts answer = Err fault
moved_unless None parts answer = moved_rows parts answer

-- a restart
abbrev pub starts_again : OrchestratorParts → List (List ℕ) → Result MovedRows OrchFault
starts_again parts nodes = moved_unless (restart_refusal parts.last.session parts.nodes nodes parts.rows) (restarted_parts nodes parts) Restarted

-- the loss of a node
abbrev pub gives_up : OrchestratorParts → List ℕ → Result MovedRows OrchFault
gives_up parts node = moved_unless (loss_refusal parts.last.session) (parts_at_loss node parts) GivenUp

-- each input
abbrev pub row_moves : OrchestratorParts → Input → Result MovedRows OrchFault
row_moves parts (ToCreate name arguments) = creates parts name arguments (row_of parts.rows name)
row_moves parts (ToUse name usage) = steps_at parts Sends (Use usage) (row_of parts.rows name)
row_moves parts (ToStop name node target) = steps_at parts Sends (Stop node target) (row_of parts.rows name)
row_moves parts (ToDelete name) = steps_at parts Sends Delete (row_of parts.rows name)
row_moves parts (TimesOut name) = steps_at parts Sends TimeOut (row_of parts.rows name)
row_moves parts (Comes frame) = receives parts frame.number frame.party frame.body
row_moves parts (Restarts nodes) = starts_again parts nodes
row_moves parts (Loses node) = gives_up parts node

-- the input by which a step is asked of the row of a name, if there is one
abbrev pub input_asking : List ℕ → Step → Option Input
input_asking name (Use usage) = Some (ToUse name usage)
input_asking name (Stop node target) = Some (ToStop name node target)
input_asking name Delete = Some (ToDelete name)
input_asking name TimeOut = Some (TimesOut name)
input_asking name step = None

-- this is answered, and nothing is refused
abbrev pub RowsAnswer : Answer → Result MovedRows OrchFault → Type 0
RowsAnswer answer (Ok moved_rows) = moved_rows.answer ≡ answer
RowsAnswer answer (Err fault) = ⊥

-- a call's result is what is told of this input
pub record IsMoveOf {R : Type 0} (old new : OrchestratorParts) (input : Input) (says : R → Answer) (result : Result R OrchFault) : Type 0 where
  pub ok : IfOk result (λ r. row_moves old input ≡ moved_rows new (says r))
  pub err : IfErr result (IsRefusal (row_moves old input))
  pub stays : OnErr result (new ≡ old)

-- what is told by a step of the row of this name
abbrev pub step_told : OrchestratorCore → (Option Frame → Answer) → Step → List ℕ → Result MovedRows OrchFault
step_told core says step name = steps_at (orchestrator_parts_shown core) says step (row_of (map row_shown (rows_of core.catalog)) name)

-- a call's result is what is told by this step of the row of a name, and a refusal changes nothing; where nothing is sent it isn't refused, and for
-- a delete it takes no memory
pub record TakesStep (old new : OrchestratorCore) (says : Option Frame → Answer) (step : Step) (name : List ℕ) (result : Result (Option Frame) OrchFault) : Type 0 where
  pub ok : IfOk result (λ sent. step_told old says step name ≡ moved_rows (orchestrator_parts_shown new) (says sent))
  pub err : IfErr result (IsRefusal (step_told old says step name))
  pub stays : OnErr result (orchestrator_parts_shown new ≡ orchestrator_parts_shown old)
  pub filed : IsFiled new
  pub quiet : ((frame : Frame) → says (Some frame) ≡ says None → ⊥) → RowsAnswer (says None) (step_told old says step name) → IsOk result
  pub delete : step ≡ Delete → IfErr result (λ fault. fault ≡ faults.NoMemory → ⊥)
