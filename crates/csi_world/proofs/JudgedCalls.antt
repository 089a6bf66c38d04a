-- What one call keeps of a plugin's state, and what a call of an earlier session does: nothing.
use Rattle.csi_world.proofs.Words.{◌≡◌, ◌<◌, Bool, true, false, cond, refl, ap, Number, Call, Party, kind_of}
use Rattle.csi_world.proofs.Words.{stale_reply, same_party, Kept, begins, Fenced, Machine, in_session, answered_only}
use Rattle.csi_world.proofs.Words.{answered_in, fenced_call, unanswered, fenced_parts, ControllerState}
use Rattle.csi_world.proofs.Lemmas.{lt-ltb, Judgement, was_over, was_fresh, was_repeated, was_stale, was_judged}
use Rattle.csi_types.specs.declared.frame.Body.TheVariants as bodies
use Rattle.csi_controller.specs.Model.Table as controller_table

-- ---- what one call keeps

-- what is kept where the session of a call begins, and where it is carried out, each frame of it keeps
module _ {State : Type 0} (machine : Machine State) (I : State → Type 0) (number : Number) (call : Call) (begins_so : (state : State) → I state → I (machine.begun number.session state))
    (carries_so : (state : State) → I state → I (machine.carried_out state number call).state) where
  -- the state in which it is judged
  session-so : (state : State) → I state → I (in_session machine number state)
  session-so state so = by (begins (machine.session state) number)
    where
      by : (b : Bool) → I (cond b (machine.begun number.session state) state)
      by true = begins_so state so
      by false = so

  -- the state after it, whatever the fence makes of it
  judged-so : (state : State) (after : Fenced State) → Judgement machine state number call after → I state → I after.state
  judged-so state _ (was_over over) so = so
  judged-so state _ (was_fresh not_over fresh) so = carries_so (in_session machine number state) (session-so state so)
  judged-so state _ (was_repeated kept not_over is spent same) so = session-so state so
  judged-so state _ (was_stale kept not_over is spent) so = session-so state so

  -- the state after the frame
  pub call-so : (state : State) (party : Party) → I state → I (fenced_parts machine state number party (bodies.Call call)).state
  call-so state party so = by (same_party party machine.party)
    where
      by : (b : Bool) → I (cond b (answered_in machine state number call) (unanswered state)).state
      by true = judged-so state (answered_in machine state number call) (was_judged machine state number call) so
      by false = so

-- a call of an earlier session than the greatest that came is stale, and changes nothing
pub low-call : {State : Type 0} (machine : Machine State) (state : State) (number : Number) (party : Party) (call : Call) → number.session < machine.session state
    → fenced_parts machine state number party (bodies.Call call) ≡ cond (same_party party machine.party) (answered_only machine state number (kind_of call) stale_reply) (unanswered state)
low-call machine state number party call low =
    ap (λ b. cond (same_party party machine.party) (cond b (answered_only machine state number (kind_of call) stale_reply) (fenced_call machine (in_session machine number state) number call (machine.kept_for call (in_session machine number state)))) (unanswered state))
    (lt-ltb number.session (machine.session state) low)

-- a change leaves the session
pub changed-sessions : (state : ControllerState) (kept : Kept) (change : controller_table.Change) → (controller_table.changed state kept change).session ≡ state.session
changed-sessions state kept controller_table.Stays = refl
changed-sessions state kept change = refl
