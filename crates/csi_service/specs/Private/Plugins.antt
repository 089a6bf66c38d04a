-- What a call does to a plugin that is served, whichever it is. This profile's own.
use Rattle.std.specs.Prelude.{◌≡◌, ◌≢◌, ℕ, not, if◌then◌else◌, List, [], map, filter, Option, Some, None, option_map, Result, IfOk, IfSome, OnOk, OnErr}
use Rattle.csi_types.specs.declared.call.Call.{Call}
use Rattle.csi_types.specs.declared.call.Party.{Party}
use Rattle.csi_types.specs.declared.frame.Body.TheVariants as bodies
use Rattle.csi_types.specs.declared.memory.NoMemory.{NoMemory}
use Rattle.csi_types.specs.declared.number.Number.{Number}
use Rattle.csi_types.specs.Model.Frame.{Frame}
use Rattle.csi_types.specs.Model.Replies.{call_frame, reply_frame}
use Rattle.csi_types.specs.Public.Frame.{IsAllowed}
use Rattle.csi_types.specs.Public.Lent.{HasFitTexts}
use Rattle.csi_fence.specs.declared.answer.Answer.{Answer}
use Rattle.csi_fence.specs.declared.fault.CoreFault.{CoreFault}
use Rattle.csi_fence.specs.Model.Fence.{begins}
use Rattle.csi_fence.specs.Model.Fenced.{Machine, fenced}
use Rattle.csi_service.specs.Public.Plugins.{ServedPlugin, View, head_of, row_parts, ServiceAnswers, row_id, row_by_id, last_in}
use Rattle.csi_service.specs.Public.Telling.{TellsFrame}

-- the plugin behind the fence, and its name in frames
abbrev pub machine_of : {P Own R State : Type 0} → View P Own R State → P → Machine State
machine_of view plugin = view.machine (view.own plugin)

-- its name in frames
abbrev pub party_of : {P Own R State : Type 0} → View P Own R State → P → Party
party_of view plugin = (machine_of view plugin).party

-- a plugin's answer to a call of this number, as a frame
abbrev pub answer_frame : Party → Number → Answer → Frame
answer_frame party number answer = reply_frame number party answer.kind answer.reply

-- ---- rows

-- the ids of the rows that don't stay where a session begins
abbrev pub gone_ids : {P Own R State : Type 0} → View P Own R State → P → List ℕ
gone_ids view plugin = map (λ row. (view.part row).key) (filter (λ row. not (view.stays row)) (view.rows plugin))

-- the volumes that a call of this number makes a plugin forget
abbrev pub forgotten_by : {P Own R State : Type 0} → View P Own R State → Number → P → List ℕ
forgotten_by view number plugin = if begins (view.numbers plugin).1 number then gone_ids view plugin else []

-- the rows that stay then
abbrev pub staying : {P Own R State : Type 0} → View P Own R State → Number → P → List R
staying view number plugin = if begins (view.numbers plugin).1 number then filter view.stays (view.rows plugin) else view.rows plugin

-- A call of this number changed or made the row at this place, or none: then that row has the call's number now, and hadn't before. Each
-- other row that stays is as it was.
pub record RowsChange {P Own R State : Type 0} (view : View P Own R State) (place : Option ℕ) (number : Number) (old new : P) : Type 0 where
  pub session : (view.numbers new).1 ≡ (if begins (view.numbers old).1 number then number.session else (view.numbers old).1)
  pub others : (id : ℕ) → (row_id view place new ≡ Some id → ⊥) → row_by_id view id (view.rows new) ≡ row_by_id view id (staying view number old)
  pub put : (id : ℕ) → row_id view place new ≡ Some id → (there : R) × (row_by_id view id (view.rows new) ≡ Some there) × (view.last there ≡ number)
  pub fresh : (id : ℕ) (was : R) → row_id view place new ≡ Some id → row_by_id view id (view.rows old) ≡ Some was → view.last was ≢ number

-- ---- a call

-- the call is for this plugin, and its texts are within their limits
pub record IsCallOf (party : Party) (call : Call) : Type 0 where
  pub allowed : IsAllowed party (bodies.Call call)
  pub texts : HasFitTexts call

-- a plugin carried out a call: an `Ok` is the definitions' answer; a refusal leaves what it shows, and its record
pub record CarriesOut {P Own R State : Type 0} (view : View P Own R State) (old new : P) (number : Number) (call : Call) (result : Result (Option Answer) CoreFault) : Type 0 where
  pub own : view.own new ≡ view.own old
  pub gets : (state : State) → view.Shows old state
      → IfOk result (λ answer. option_map (answer_frame (party_of view old) number) answer ≡ (fenced (machine_of view old) state (call_frame number (party_of view old) call)).reply)
  pub leads : (state : State) → view.Shows old state → OnOk result (view.Shows new (fenced (machine_of view old) state (call_frame number (party_of view old) call)).state)
  pub allowed : IfOk result (λ answer. IfSome answer (λ own. IsAllowed (party_of view old) (bodies.Reply own.kind own.reply)))
  pub changes : IfOk result (λ answer. IfSome answer (λ own. RowsChange view own.row number old new))
  pub err_shows : (state : State) → view.Shows old state → OnErr result (view.Shows new state)
  pub err : OnErr result ((head_of view new ≡ head_of view old) × (row_parts view new ≡ row_parts view old))

-- a session was raised in a plugin: its rows are what a call of the session leaves that puts none in; what never changes stays, and so does the
-- head's other number
pub record Raises {P Own R State : Type 0} (view : View P Own R State) (session : ℕ) (old new : P) : Type 0 where
  pub own : view.own new ≡ view.own old
  pub first : (view.numbers new).0 ≡ (view.numbers old).0
  pub shows : (state : State) → view.Shows old state → view.Shows new (view.raised session state)
  pub changes : RowsChange view None (record { session = session; call = 0 }) old new

-- two plugins tell the same of what is told of a state: the numbers of the head, and each row's last number
pub record TellSame {P Own R State : Type 0} (view : View P Own R State) (one other : P) : Type 0 where
  pub numbers : view.numbers other ≡ view.numbers one
  pub last : (id : ℕ) → last_in view other id ≡ last_in view one id

-- a plugin that is served answered a call so: an `Ok` is the definitions' answer, and tells what it changed; an `Err` leaves what the record says
pub record AnswersCall {P Own R State : Type 0} (view : View P Own R State) (old new : ServedPlugin P) (number : Number) (call : Call) (result : Result Answer NoMemory) : Type 0 where
  pub answered : IfOk result (λ answer. ServiceAnswers view old (call_frame number (party_of view old.plugin) call) (Some (answer_frame (party_of view old.plugin) number answer)) new)
  pub allowed : IfOk result (λ answer. IsAllowed (party_of view old.plugin) (bodies.Reply answer.kind answer.reply))
  pub told : TellsFrame view old new (call_frame number (party_of view old.plugin) call) result
