-- What is so of each call that a plugin's table answers: CSI's spec.md asks in each call's section that a refusal
-- change nothing, that a success bring about what the call asks, and that the call be idempotent.
use Rattle.std.specs.Prelude.{◌≡◌, ◌≢◌, false, List, Option, Some}
use Rattle.csi_types.specs.declared.number.Number.{Number}
use Rattle.csi_types.specs.declared.call.Call.{Call}
use Rattle.csi_types.specs.declared.status.Status.TheVariants.{Ok}
use Rattle.csi_types.specs.declared.reply.Reply.{Reply}
use Rattle.csi_types.specs.Model.Call.{kind_of}
use Rattle.csi_types.specs.Model.Frame.{Frame}
use Rattle.csi_types.specs.Model.Number.{IsBefore}
use Rattle.csi_types.specs.Model.Replies.{call_frame, reply_frame}
use Rattle.csi_fence.specs.Public.Delivery.{last_of}
use Rattle.csi_fence.specs.Public.Fence.{IsFresh}
use Rattle.csi_fence.specs.Model.Fence.{is_over}
use Rattle.csi_fence.specs.Model.Fenced.{Machine, in_session, fenced}
use Rattle.csi_fence.specs.Public.Fenced.{after_frames}

-- a plugin, by its states: the machine; its table's reply to a call; and what is said of its states: that two differ in nothing
-- but what is kept of the last calls, that what a call asks is so, and that the other volumes are as they were
pub record PluginMachine (State : Type 0) : Type 1 where
  pub machine : Machine State
  pub reply_at : State → Call → Reply
  pub is_same : State → State → Type 0
  pub is_done : State → Reply → Call → Type 0
  pub leaves_others : State → State → Call → Type 0

-- the answer to a call, and the state after it
abbrev pub answer_to : {State : Type 0} → PluginMachine State → State → Number → Call → Option Frame
answer_to plugin state number call = (fenced plugin.machine state (call_frame number plugin.machine.party call)).reply

-- the state after a call
abbrev pub after_call : {State : Type 0} → PluginMachine State → State → Number → Call → State
after_call plugin state number call = (fenced plugin.machine state (call_frame number plugin.machine.party call)).state

-- the call again, under a later number of its session, gets the same reply and changes nothing
abbrev pub IsIdempotent : {State : Type 0} → PluginMachine State → State → Reply → Number → Call → Type 0
IsIdempotent plugin state reply number call =
    (later : Number) → later.session ≡ number.session → IsBefore number later
    → (answer_to plugin state later call ≡ Some (reply_frame later plugin.machine.party (kind_of call) reply))
    × plugin.is_same state (after_call plugin state later call)

-- what is so of one call that the table answers, in the state in which it is judged
pub record IsLawfulIn {State : Type 0} (plugin : PluginMachine State) (begun after : State) (number : Number) (call : Call) : Type 0 where
  pub refused : (plugin.reply_at begun call).status ≢ Ok → plugin.is_same begun after
  pub done : (plugin.reply_at begun call).status ≡ Ok → plugin.is_done after (plugin.reply_at begun call) call
  pub again : (plugin.reply_at begun call).status ≡ Ok → IsIdempotent plugin after (plugin.reply_at begun call) number call
  pub others : plugin.leaves_others begun after call

-- the same in the session of the call
abbrev pub IsLawful : {State : Type 0} → PluginMachine State → State → Number → Call → Type 0
IsLawful plugin state number call = IsLawfulIn plugin (in_session plugin.machine number state) (after_call plugin state number call) number call

-- the fence lets the call through to the table
pub record IsLetThrough {State : Type 0} (machine : Machine State) (state : State) (number : Number) (call : Call) : Type 0 where
  pub not_over : is_over (machine.session state) number ≡ false
  pub fresh : IsFresh (last_of (machine.kept_for call (in_session machine number state))) number

-- the laws of a plugin's table, for every state that frames lead to from this one and every call that the table answers there
abbrev pub TableLaw : {State : Type 0} → PluginMachine State → State → Type 0
TableLaw plugin first =
    (frames : List Frame) (number : Number) (call : Call) → IsLetThrough plugin.machine (after_frames plugin.machine first frames) number call
    → IsLawful plugin (after_frames plugin.machine first frames) number call
