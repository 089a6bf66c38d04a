-- What a session that begins keeps, and each call that is carried out, each frame keeps, and all frames do.
use Rattle.std.proofs.Common.{◌≡◌, ℕ, List, [], ◌∷◌, Bool, true, false, cond, refl, sym}
use Rattle.std.specs.Prelude.{nat_lt}
use Rattle.csi_types.specs.declared.number.Number.{Number}
use Rattle.csi_types.specs.declared.call.Call.{Call}
use Rattle.csi_types.specs.declared.call.Party.{Party}
use Rattle.csi_types.specs.declared.frame.Body.{Body}
use Rattle.csi_types.specs.declared.frame.Body.TheVariants as bodies
use Rattle.csi_types.specs.Model.Frame.{Frame}
use Rattle.csi_types.specs.Model.Same.{same_party}
use Rattle.csi_fence.specs.Public.Delivery.{last_of}
use Rattle.csi_fence.specs.Model.Fence.{is_spent, is_over, begins}
use Rattle.csi_fence.specs.Model.Fenced.{Fenced, Machine, in_session, answered_in, unanswered, fenced_parts, fenced}
use Rattle.csi_fence.specs.Public.Fenced.{after_frames}
use Rattle.csi_fence.proofs.Judged.{Judgement, was_over, was_fresh, was_repeated, was_stale, was_judged}
use Rattle.csi_fence.proofs.Spent.{same_session}

-- the session that has begun is the machine's
abbrev pub SetsSession : {State : Type 0} → Machine State → Type 0
SetsSession {State = State} machine = (session : ℕ) (state : State) → machine.session (machine.begun session state) ≡ session

-- the call is carried out in this state: it is of the machine's session, and its number isn't spent
pub record IsCarriedOut {State : Type 0} (machine : Machine State) (state : State) (number : Number) (call : Call) : Type 0 where
  pub session : number.session ≡ machine.session state
  pub fresh : is_spent (last_of (machine.kept_for call state)) number ≡ false

-- it is kept where a later session begins, and by each call that is carried out
pub record IsKept {State : Type 0} (machine : Machine State) (I : State → Type 0) : Type 0 where
  pub sets_session : SetsSession machine
  pub begins : (session : ℕ) (state : State) → nat_lt (machine.session state) session ≡ true → I state → I (machine.begun session state)
  pub carries : (state : State) (number : Number) (call : Call) → IsCarriedOut machine state number call → I state → I (machine.carried_out state number call).state

-- it is so of each state and itself; of a state and another, where it is so of that state in a later session and the other; and of a state
-- and the one after each call that is carried out
pub record Leads {State : Type 0} (machine : Machine State) (R : State → State → Type 0) : Type 0 where
  pub sets_session : SetsSession machine
  pub stays : (state : State) → R state state
  pub begins : (session : ℕ) (state after : State) → nat_lt (machine.session state) session ≡ true → R (machine.begun session state) after → R state after
  pub carries : (state : State) (number : Number) (call : Call) → IsCarriedOut machine state number call → R state (machine.carried_out state number call).state

module _ {State : Type 0} (machine : Machine State) where
  -- a call that isn't over is judged in its session
  pub own_session : SetsSession machine → (state : State) (number : Number) → is_over (machine.session state) number ≡ false → number.session ≡ machine.session (in_session machine number state)
  own_session sets state number not_over = by (begins (machine.session state) number) refl
    where
      by : (b : Bool) → begins (machine.session state) number ≡ b → number.session ≡ machine.session (cond b (machine.begun number.session state) state)
      by true later = sym (sets number.session state)
      by false same = same_session number.session (machine.session state) not_over same

  module _ (I : State → Type 0) (keeps : IsKept machine I) where
    -- the state in which a call is judged keeps it
    pub session_keeps : (state : State) (number : Number) → I state → I (in_session machine number state)
    session_keeps state number so = by (begins (machine.session state) number) refl
      where
        by : (b : Bool) → begins (machine.session state) number ≡ b → I (cond b (machine.begun number.session state) state)
        by true later = keeps.begins number.session state later so
        by false same = so

    -- so does each call, whatever the fence makes of it
    judged_keeps : (state : State) (number : Number) (call : Call) (after : Fenced State) → Judgement machine state number call after → I state → I after.state
    judged_keeps state number call _ (was_over over) so = so
    judged_keeps state number call _ (was_fresh not_over fresh) so =
        keeps.carries (in_session machine number state) number call (record { session = own_session keeps.sets_session state number not_over; fresh = fresh })
        (session_keeps state number so)
    judged_keeps state number call _ (was_repeated kept not_over is spent same) so = session_keeps state number so
    judged_keeps state number call _ (was_stale kept not_over is spent) so = session_keeps state number so

    pub call_keeps : (state : State) (number : Number) (call : Call) → I state → I (answered_in machine state number call).state
    call_keeps state number call so = judged_keeps state number call (answered_in machine state number call) (was_judged machine state number call) so

    parts_keep : (state : State) (number : Number) (party : Party) (body : Body) → I state → I (fenced_parts machine state number party body).state
    parts_keep state number party (bodies.Call call) so = by (same_party party machine.party)
      where
        by : (b : Bool) → I (cond b (answered_in machine state number call) (unanswered state)).state
        by true = call_keeps state number call so
        by false = so
    parts_keep state number party (bodies.Reply kind reply) so = so

    -- each frame
    pub frame_keeps : (state : State) (frame : Frame) → I state → I (fenced machine state frame).state
    frame_keeps state frame so = parts_keep state frame.number frame.party frame.body so

    -- and all frames
    pub frames_keep : (state : State) (frames : List Frame) → I state → I (after_frames machine state frames)
    frames_keep state [] so = so
    frames_keep state (frame ∷ frames) so = frames_keep (fenced machine state frame).state frames (frame_keeps state frame so)

  module _ (R : State → State → Type 0) (leads : Leads machine R) where
    -- what is so from the state in which a call is judged is so from the state before
    pub session_leads : (state : State) (number : Number) (after : State) → R (in_session machine number state) after → R state after
    session_leads state number after so = by (begins (machine.session state) number) refl so
      where
        by : (b : Bool) → begins (machine.session state) number ≡ b → R (cond b (machine.begun number.session state) state) after → R state after
        by true later so = leads.begins number.session state after later so
        by false same so = so

    -- it is so of a state and the one after each call, whatever the fence makes of it
    judged_leads : (state : State) (number : Number) (call : Call) (after : Fenced State) → Judgement machine state number call after → R state after.state
    judged_leads state number call _ (was_over over) = leads.stays state
    judged_leads state number call _ (was_fresh not_over fresh) =
        session_leads state number (machine.carried_out (in_session machine number state) number call).state
        (leads.carries (in_session machine number state) number call (record { session = own_session leads.sets_session state number not_over; fresh = fresh }))
    judged_leads state number call _ (was_repeated kept not_over is spent same) = session_leads state number (in_session machine number state) (leads.stays (in_session machine number state))
    judged_leads state number call _ (was_stale kept not_over is spent) = session_leads state number (in_session machine number state) (leads.stays (in_session machine number state))

    pub call_leads : (state : State) (number : Number) (call : Call) → R state (answered_in machine state number call).state
    call_leads state number call = judged_leads state number call (answered_in machine state number call) (was_judged machine state number call)

    parts_lead : (state : State) (number : Number) (party : Party) (body : Body) → R state (fenced_parts machine state number party body).state
    parts_lead state number party (bodies.Call call) = by (same_party party machine.party)
      where
        by : (b : Bool) → R state (cond b (answered_in machine state number call) (unanswered state)).state
        by true = call_leads state number call
        by false = leads.stays state
    parts_lead state number party (bodies.Reply kind reply) = leads.stays state

    -- and after each frame
    pub frame_leads : (state : State) (frame : Frame) → R state (fenced machine state frame).state
    frame_leads state frame = parts_lead state frame.number frame.party frame.body
