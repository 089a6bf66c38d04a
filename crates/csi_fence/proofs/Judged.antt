-- What the fence makes of a call is one of four. What is so of every call that is answered is shown by cases of these.
use Rattle.std.proofs.Common.{◌≡◌, Bool, true, false, cond, refl, ap}
use Rattle.std.specs.Prelude.{Option, Some, None}
use Rattle.csi_types.proofs.Equality.{same_number-tells, same_party-tells}
use Rattle.csi_types.specs.declared.number.Number.{Number}
use Rattle.csi_types.specs.declared.call.Call.{Call}
use Rattle.csi_types.specs.Model.Call.{kind_of}
use Rattle.csi_types.specs.Model.Replies.{stale_reply, call_frame}
use Rattle.csi_types.specs.Model.Same.{same_number, same_party}
use Rattle.csi_fence.specs.declared.fence.Verdict.TheVariants.{Stale, Repeated, Fresh}
use Rattle.csi_fence.specs.Public.Delivery.{last_of}
use Rattle.csi_fence.specs.Model.Fence.{Kept, is_spent, is_over}
use Rattle.csi_fence.specs.Model.Fenced.{Fenced, Machine, in_session, answered_only, judged, fenced_call, answered_in, fenced}

-- a call that is over is stale. Any other is judged in its session: where its number isn't spent, it is carried out; where it is
-- the last one, it gets the kept reply; else it is stale
pub data Judgement {State : Type 0} (machine : Machine State) (state : State) (number : Number) (call : Call) : Fenced State → Type 0 where
  was_over : is_over (machine.session state) number ≡ true → Judgement machine state number call (answered_only machine state number (kind_of call) stale_reply)
  was_fresh : is_over (machine.session state) number ≡ false → is_spent (last_of (machine.kept_for call (in_session machine number state))) number ≡ false
      → Judgement machine state number call (machine.carried_out (in_session machine number state) number call)
  was_repeated : (kept : Kept) → is_over (machine.session state) number ≡ false → machine.kept_for call (in_session machine number state) ≡ Some kept
      → is_spent (last_of (machine.kept_for call (in_session machine number state))) number ≡ true → number ≡ kept.number
      → Judgement machine state number call (answered_only machine (in_session machine number state) number kept.kind kept.reply)
  was_stale : (kept : Kept) → is_over (machine.session state) number ≡ false → machine.kept_for call (in_session machine number state) ≡ Some kept
      → is_spent (last_of (machine.kept_for call (in_session machine number state))) number ≡ true
      → Judgement machine state number call (answered_only machine (in_session machine number state) number (kind_of call) stale_reply)

module _ {State : Type 0} (machine : Machine State) (state : State) (number : Number) (call : Call) where
  -- the state in which the call is judged, unless it is over
  abbrev now : State
  now = in_session machine number state

  -- by the number that is kept
  by_kept : (kept : Kept) (b c : Bool) → is_over (machine.session state) number ≡ false → machine.kept_for call now ≡ Some kept
      → is_spent (last_of (machine.kept_for call now)) number ≡ b → same_number number kept.number ≡ c
      → Judgement machine state number call (judged machine now number call kept (cond b (cond c Repeated Stale) Fresh))
  by_kept kept false c not_over is fresh same = was_fresh not_over fresh
  by_kept kept true true not_over is spent same = was_repeated kept not_over is spent ((same_number-tells number kept.number).0 same)
  by_kept kept true false not_over is spent other = was_stale kept not_over is spent

  -- by what is kept, if something is
  by_row : (o : Option Kept) → is_over (machine.session state) number ≡ false → machine.kept_for call now ≡ o
      → Judgement machine state number call (fenced_call machine now number call o)
  by_row None not_over is = was_fresh not_over (ap (λ (o : Option Kept). is_spent (last_of o) number) is)
  by_row (Some kept) not_over is =
      by_kept kept (is_spent (Some kept.number) number) (same_number number kept.number) not_over is (ap (λ (o : Option Kept). is_spent (last_of o) number) is) refl

  -- by its session
  by_session : (b : Bool) → is_over (machine.session state) number ≡ b
      → Judgement machine state number call (cond b (answered_only machine state number (kind_of call) stale_reply) (fenced_call machine now number call (machine.kept_for call now)))
  by_session true over = was_over over
  by_session false not_over = by_row (machine.kept_for call now) not_over refl

  -- each call is judged so
  pub was_judged : Judgement machine state number call (answered_in machine state number call)
  was_judged = by_session (is_over (machine.session state) number) refl

  -- and each frame with a call
  pub was_answered : Judgement machine state number call (fenced machine state (call_frame number machine.party call))
  was_answered =
      let own : same_party machine.party machine.party ≡ true = (same_party-tells machine.party machine.party).1 refl in
      rw own was_judged
