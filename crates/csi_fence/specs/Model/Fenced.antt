-- What a plugin does with a frame: the fence stands before its table. Both plugins have this fence, each with states and a
-- table of its own. This profile's own: CSI's spec.md, "Concurrency", asks that a plugin bear calls that come twice, late
-- or at once.
use Rattle.std.specs.Prelude.{ℕ, Option, Some, None, if◌then◌else◌}
use Rattle.csi_types.specs.declared.number.Number.{Number}
use Rattle.csi_types.specs.declared.call.Kind.{Kind}
use Rattle.csi_types.specs.declared.call.Call.{Call}
use Rattle.csi_types.specs.declared.call.Party.{Party}
use Rattle.csi_types.specs.declared.frame.Body.{Body}
use Rattle.csi_types.specs.declared.frame.Body.TheVariants as bodies
use Rattle.csi_types.specs.declared.reply.Reply.{Reply}
use Rattle.csi_types.specs.Model.Call.{kind_of}
use Rattle.csi_types.specs.Model.Frame.{Frame}
use Rattle.csi_types.specs.Model.Replies.{stale_reply, reply_frame}
use Rattle.csi_types.specs.Model.Same.{same_party}
use Rattle.csi_fence.specs.declared.fence.Verdict.{Verdict}
use Rattle.csi_fence.specs.declared.fence.Verdict.TheVariants.{Stale, Repeated, Fresh}
use Rattle.csi_fence.specs.Model.Fence.{Kept, verdict_of, is_over, begins}

-- the reply that a frame gets, if it gets one, and the state after it
pub record Fenced (State : Type 0) : Type 0 where
  pub reply : Option Frame
  pub state : State

-- a plugin, by its states: which one it is; the greatest session that came; the state once a later session begins; what is kept of
-- the last call that was let through for the volume of a call; and what a call that is let through gets
pub record Machine (State : Type 0) : Type 0 where
  pub party : Party
  pub session : State → ℕ
  pub begun : ℕ → State → State
  pub kept_for : Call → State → Option Kept
  pub carried_out : State → Number → Call → Fenced State

-- the state in which a call is judged: where it begins a session, the one in which that session has begun
abbrev pub in_session : {State : Type 0} → Machine State → Number → State → State
in_session machine number state = if begins (machine.session state) number then machine.begun number.session state else state

-- an answer that changes nothing
abbrev pub answered_only : {State : Type 0} → Machine State → State → Number → Kind → Reply → Fenced State
answered_only machine state number kind reply = record { reply = Some (reply_frame number machine.party kind reply); state = state }

-- by what the fence says of the number
abbrev pub judged : {State : Type 0} → Machine State → State → Number → Call → Kept → Verdict → Fenced State
judged machine state number call kept Stale = answered_only machine state number (kind_of call) stale_reply
judged machine state number call kept Repeated = answered_only machine state number kept.kind kept.reply
judged machine state number call kept Fresh = machine.carried_out state number call

-- by what is kept for the call's volume, if something is
abbrev pub fenced_call : {State : Type 0} → Machine State → State → Number → Call → Option Kept → Fenced State
fenced_call machine state number call None = machine.carried_out state number call
fenced_call machine state number call (Some kept) = judged machine state number call kept (verdict_of (Some kept.number) number)

-- a call of an earlier session is stale, and changes nothing; any other is judged in its session
abbrev pub answered_in : {State : Type 0} → Machine State → State → Number → Call → Fenced State
answered_in machine state number call =
    if is_over (machine.session state) number then answered_only machine state number (kind_of call) stale_reply
    else fenced_call machine (in_session machine number state) number call (machine.kept_for call (in_session machine number state))

-- no answer, and no change
abbrev pub unanswered : {State : Type 0} → State → Fenced State
unanswered state = record { reply = None; state = state }

-- what a frame gets, by what it has: a call for this plugin its answer, a call for another one and a reply none
abbrev pub fenced_parts : {State : Type 0} → Machine State → State → Number → Party → Body → Fenced State
fenced_parts machine state number party (bodies.Call call) = if same_party party machine.party then answered_in machine state number call else unanswered state
fenced_parts machine state number party (bodies.Reply kind reply) = unanswered state

-- what a frame gets, and the state after it
abbrev pub fenced : {State : Type 0} → Machine State → State → Frame → Fenced State
fenced machine state frame = fenced_parts machine state frame.number frame.party frame.body
