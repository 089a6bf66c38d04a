-- How an orchestrator answers a line: a command, a timeout, a frame that came, or a node that is lost. This profile's own.
use Rattle.std.specs.Prelude.{◌≡◌, ◌⊎◌, ℕ, List, slice_get, Option, Some, None, option_map, option_and_then, Result, Ok, Err, IfOk}
use Rattle.serde_json.specs.Data.{Data}
use Rattle.serde_json.specs.Written.{compact_text}
use Rattle.csi_types.specs.declared.event.Event.{Event}
use Rattle.csi_types.specs.declared.event.Event.TheVariants as events
use Rattle.csi_types.specs.Model.Frame.{Frame}
use Rattle.csi_frames.specs.Public.Spelling.{Spells, spelling}
use Rattle.csi_orchestrator.specs.declared.fault.Heard.{Heard}
use Rattle.csi_orchestrator.specs.declared.fault.Heard.TheVariants as heards
use Rattle.csi_orchestrator.specs.declared.fault.OrchFault.{OrchFault}
use Rattle.csi_orchestrator.specs.declared.fault.OrchFault.TheVariants as faults
use Rattle.csi_orchestrator.specs.Model.History.{Goal}
use Rattle.csi_orchestrator.specs.Model.Moves.{Input, ToCreate, ToUse, ToStop, ToDelete, TimesOut, Comes, Sends, Hears}
use Rattle.csi_orchestrator.specs.Model.Shown.{RowShown, goal_in}
use Rattle.csi_orchestrator.specs.Public.Changed.{place_by_name, place_by_call, ChangesAsHeard}
use Rattle.csi_service.specs.Public.OrchestratorServices.{ServedOrchestrator, OrchestratorAnswers, OrchestratorLoses, IsToldStale, IsTimely}
use Rattle.csi_json.specs.declared.request_fault.RequestFault.{RequestFault}
use Rattle.csi_json.specs.declared.request_fault.RequestFault.TheVariants as no_requests
use Rattle.csi_json.specs.Public.Requests.{RequestShown, Command, Reply, line_request, request_fault_name}
use Rattle.csi_reports.specs.declared.responses.RequestOutcome.TheVariants.{Sent, Met, Refused, Taken, Lost}
use Rattle.csi_reports.specs.Public.Responses.{answer_entry, loss_entry, ignored_entry, fault_entry}

-- ---- what is told

-- the row at a place, if one was found
abbrev pub row_at : List RowShown → Option ℕ → Option RowShown
row_at rows place = option_and_then (slice_get rows) place

-- a frame, and the bytes that spell it
abbrev pub with_bytes : Frame → Frame × List ℕ
with_bytes frame = (frame, spelling frame)

-- of a command or a timeout: what became of it, and the call that is to be sent; about the volume of its name, with what is wanted of it then
abbrev pub command_entry : List ℕ → Option Goal → Result (Option Frame) OrchFault → Data
command_entry name goal (Ok (Some frame)) = answer_entry name goal Sent (Some (with_bytes frame))
command_entry name goal (Ok None) = answer_entry name goal Met None
command_entry name goal (Err fault) = answer_entry name goal (Refused fault) None

-- of a frame that was a reply to the call of this row, or that was refused
abbrev pub reply_entry : RowShown → Result (Option Frame) OrchFault → Data
reply_entry row (Ok sent) = answer_entry row.name (goal_in row) Taken (option_map with_bytes sent)
reply_entry row (Err fault) = answer_entry row.name (goal_in row) (Refused fault) None

-- of a frame that came: it was ignored; or else it is told of the row whose call it was, where it stands then
abbrev pub heard_entry : Option RowShown → Result Heard OrchFault → Data
heard_entry None heard = ignored_entry
heard_entry (Some row) (Ok heards.Ignored) = ignored_entry
heard_entry (Some row) (Ok (heards.Taken sent)) = reply_entry row (Ok sent)
heard_entry (Some row) (Err fault) = reply_entry row (Err fault)

-- of a node that was to be taken as lost, what became of that, and the session that there is then
abbrev pub lost_entry : {A : Type 0} → List ℕ → Result A OrchFault → ℕ → Data
lost_entry node (Ok done) session = loss_entry node Lost session
lost_entry node (Err fault) session = loss_entry node (Refused fault) session

-- ---- how it is answered

-- A command or a timeout about the volume of a name: the orchestrator answered so, which wasn't out of memory, and that is told.
pub record AnswersCommand (input : Input) (name : List ℕ) (old : ServedOrchestrator) (answer : List ℕ) (new : ServedOrchestrator) : Type 0 where
  pub told : Result (Option Frame) OrchFault
  pub answered : OrchestratorAnswers Sends old input told new
  pub memory : told ≡ Err faults.NoMemory → ⊥
  pub line : answer ≡ compact_text (command_entry name (option_and_then goal_in (row_at new.orchestrator.rows (place_by_name name new.orchestrator.rows))) told)

-- a frame that came, and says of no open call that it was stale: the same; where it was taken, the row whose call it was is there, and has its name
-- still
pub record AnswersFrame (frame : Frame) (old : ServedOrchestrator) (answer : List ℕ) (new : ServedOrchestrator) : Type 0 where
  pub timely : IsTimely frame old
  pub heard : Result Heard OrchFault
  pub answered : OrchestratorAnswers Hears old (Comes frame) heard new
  pub memory : heard ≡ Err faults.NoMemory → ⊥
  pub row : IfOk heard (λ what. ChangesAsHeard frame.number what old.orchestrator new.orchestrator)
  pub line : answer ≡ compact_text (heard_entry (row_at new.orchestrator.rows (place_by_call frame.number old.orchestrator.rows)) heard)

-- a node that is lost: the orchestrator answered so, and that is told
pub record AnswersLoss (node : List ℕ) (old : ServedOrchestrator) (answer : List ℕ) (new : ServedOrchestrator) : Type 0 where
  pub told : Result (Unit {0}) OrchFault
  pub answered : OrchestratorLoses old node told new
  pub line : answer ≡ compact_text (lost_entry node told new.orchestrator.last.session)

-- a line that is no request: its fault is told, and nothing is changed
pub record AnswersFault (fault : RequestFault) (old : ServedOrchestrator) (answer : List ℕ) (new : ServedOrchestrator) : Type 0 where
  pub stays : new ≡ old
  pub line : answer ≡ compact_text (fault_entry (request_fault_name fault))

-- ---- by what it asks

-- how what a line asks is answered: a command or a timeout about the volume of a name, a frame that came, a node that is lost, or nothing
pub record LineJudge (S : Type 0) : Type 1 where
  pub command : Input → List ℕ → S → List ℕ → S → Type 0
  pub frame : Frame → S → List ℕ → S → Type 0
  pub loss : List ℕ → S → List ℕ → S → Type 0
  pub fault : RequestFault → S → List ℕ → S → Type 0

-- by what happens; what is no command, no timeout and no loss is no request
abbrev pub EventBy : {S : Type 0} → LineJudge S → Event → S → List ℕ → S → Type 0
EventBy judge (events.Create name required limit capabilities) = judge.command (ToCreate name (record { required = required; limit = limit; capabilities = capabilities })) name
EventBy judge (events.Use name node target capability readonly) =
    judge.command (ToUse name (record { node = node; target = target; capability = capability; readonly = readonly })) name
EventBy judge (events.Stop name node target) = judge.command (ToStop name node target) name
EventBy judge (events.Delete name) = judge.command (ToDelete name) name
EventBy judge (events.Timeout name) = judge.command (TimesOut name) name
EventBy judge (events.Deliver number) = judge.fault no_requests.BadLine
EventBy judge events.RestartOrchestrator = judge.fault no_requests.BadLine
EventBy judge (events.RestartOrchestratorWith nodes) = judge.fault no_requests.BadLine
EventBy judge events.RestartController = judge.fault no_requests.BadLine
EventBy judge (events.RestartControllerWith config) = judge.fault no_requests.BadLine
EventBy judge (events.RestartNode node) = judge.fault no_requests.BadLine
EventBy judge (events.Join node) = judge.fault no_requests.BadLine
EventBy judge (events.Lose node) = judge.loss node
EventBy judge (events.Settle name) = judge.fault no_requests.BadLine

-- bytes that came: exactly one whole frame, or a fault
abbrev pub ReplyBy : {S : Type 0} → LineJudge S → List ℕ → S → List ℕ → S → Type 0
ReplyBy judge bytes old answer new =
    ((frame : Frame) × Spells frame bytes × judge.frame frame old answer new) ⊎ (((frame : Frame) → Spells frame bytes → ⊥) × judge.fault no_requests.BadFrame old answer new)

-- a request, or a fault
abbrev pub RequestBy : {S : Type 0} → LineJudge S → Result RequestShown RequestFault → S → List ℕ → S → Type 0
RequestBy judge (Ok (Command event)) = EventBy judge event
RequestBy judge (Ok (Reply bytes)) = ReplyBy judge bytes
RequestBy judge (Err fault) = judge.fault fault

-- ---- an orchestrator that is served

-- how it answers
abbrev pub served_lines : LineJudge ServedOrchestrator
served_lines = record { command = AnswersCommand; frame = AnswersFrame; loss = AnswersLoss; fault = AnswersFault }

-- this and the next three: by what happens, bytes that came, a request, and a line
abbrev pub AnswersEvent : Event → ServedOrchestrator → List ℕ → ServedOrchestrator → Type 0
AnswersEvent = EventBy served_lines

abbrev pub AnswersReply : List ℕ → ServedOrchestrator → List ℕ → ServedOrchestrator → Type 0
AnswersReply = ReplyBy served_lines

abbrev pub AnswersRequest : Result RequestShown RequestFault → ServedOrchestrator → List ℕ → ServedOrchestrator → Type 0
AnswersRequest = RequestBy served_lines

abbrev pub AnswersLine : List ℕ → ServedOrchestrator → List ℕ → ServedOrchestrator → Type 0
AnswersLine line = AnswersRequest (line_request line)

-- ---- what isn't answered

-- bytes that came are a frame that says of an open call that it was stale
abbrev pub IsToldStaleBy : List ℕ → ServedOrchestrator → Type 0
IsToldStaleBy bytes old = (frame : Frame) × Spells frame bytes × IsToldStale frame old

-- so it is with a request
abbrev pub IsToldStaleAt : Result RequestShown RequestFault → ServedOrchestrator → Type 0
IsToldStaleAt (Ok (Command event)) old = ⊥
IsToldStaleAt (Ok (Reply bytes)) old = IsToldStaleBy bytes old
IsToldStaleAt (Err fault) old = ⊥

-- and with a line: the orchestrator's store is an older one
abbrev pub IsToldStaleIn : List ℕ → ServedOrchestrator → Type 0
IsToldStaleIn line = IsToldStaleAt (line_request line)
