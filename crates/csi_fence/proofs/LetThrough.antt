-- A call that the fence lets through is carried out in its session, and so is a later one of that session after it.
use Rattle.std.proofs.Common.{◌≡◌, ℕ, Bool, true, false, cond, refl, sym, ◌∙◌, ap, subst, arith}
use Rattle.std.specs.Prelude.{Option, Some, None}
use Rattle.std.proofs.lemmas.Bool.Decides.{nat_tests}
use Rattle.csi_types.proofs.Equality.{same_party-tells}
use Rattle.csi_types.specs.declared.number.Number.{Number}
use Rattle.csi_types.specs.declared.call.Call.{Call}
use Rattle.csi_types.specs.Model.Call.{kind_of}
use Rattle.csi_types.specs.Model.Number.{IsBefore}
use Rattle.csi_types.specs.Model.Replies.{stale_reply, call_frame}
use Rattle.csi_types.specs.Model.Same.{same_party}
use Rattle.csi_fence.specs.Public.Delivery.{last_of}
use Rattle.csi_fence.specs.Model.Fence.{Kept, is_over, begins}
use Rattle.csi_fence.specs.Public.Fence.{IsFresh}
use Rattle.csi_fence.specs.Model.Fenced.{Machine, in_session, answered_only, answered_in, fenced_call, fenced}
use Rattle.csi_fence.specs.Public.Lawful.{IsLetThrough}
use Rattle.csi_fence.proofs.Spent.{not_over-own}

-- a call of this session doesn't begin it
not_begins-own : (session : ℕ) (number : Number) → number.session ≡ session → begins session number ≡ false
not_begins-own session number same = grind (arith, nat_tests)

-- a number after the last one is fresh
pub fresh-after : (last later : Number) → IsBefore last later → IsFresh (Some last) later
fresh-after last later before = rw before refl

module _ {State : Type 0} (machine : Machine State) where
  -- a frame of a call to this plugin gets what the call does
  pub is_answered : (state : State) (number : Number) (call : Call) → fenced machine state (call_frame number machine.party call) ≡ answered_in machine state number call
  is_answered state number call = let own : same_party machine.party machine.party ≡ true = (same_party-tells machine.party machine.party).1 refl in rw own refl

  -- by whether it is over
  by_session : (state : State) (number : Number) (call : Call) (b : Bool) → is_over (machine.session state) number ≡ b
      → answered_in machine state number call
      ≡ cond b (answered_only machine state number (kind_of call) stale_reply) (fenced_call machine (in_session machine number state) number call (machine.kept_for call (in_session machine number state)))
  by_session state number call b is =
      ap
      (λ c. cond c (answered_only machine state number (kind_of call) stale_reply) (fenced_call machine (in_session machine number state) number call (machine.kept_for call (in_session machine number state))))
      is

  -- one that is over gets that it is stale, and nothing changes
  pub over_call : (state : State) (number : Number) (call : Call) → is_over (machine.session state) number ≡ true
      → fenced machine state (call_frame number machine.party call) ≡ answered_only machine state number (kind_of call) stale_reply
  over_call state number call over = is_answered state number call ∙ by_session state number call true over

  -- one that isn't over is judged in its session
  pub judged_call : (state : State) (number : Number) (call : Call) → is_over (machine.session state) number ≡ false
      → fenced machine state (call_frame number machine.party call) ≡ fenced_call machine (in_session machine number state) number call (machine.kept_for call (in_session machine number state))
  judged_call state number call not_over = is_answered state number call ∙ by_session state number call false not_over

  -- a call whose number is fresh is carried out
  fresh_call : (state : State) (number : Number) (call : Call) (kept : Option Kept) → IsFresh (last_of kept) number → fenced_call machine state number call kept ≡ machine.carried_out state number call
  fresh_call state number call None fresh = refl
  fresh_call state number call (Some kept) fresh = rw fresh refl

  -- one that is let through is carried out in its session
  pub is_carried_out : (state : State) (number : Number) (call : Call) → IsLetThrough machine state number call
      → fenced machine state (call_frame number machine.party call) ≡ machine.carried_out (in_session machine number state) number call
  is_carried_out state number call through =
      judged_call state number call through.not_over
      ∙ fresh_call (in_session machine number state) number call (machine.kept_for call (in_session machine number state)) through.fresh

  -- a call of the machine's session is judged in the state that there is
  pub stays-in_session : (state : State) (number : Number) → number.session ≡ machine.session state → in_session machine number state ≡ state
  stays-in_session state number same = ap (λ b. cond b (machine.begun number.session state) state) (not_begins-own (machine.session state) number same)

  -- and so by what is kept there
  pub own_call : (state : State) (number : Number) (call : Call) → number.session ≡ machine.session state
      → fenced machine state (call_frame number machine.party call) ≡ fenced_call machine state number call (machine.kept_for call state)
  own_call state number call same =
      judged_call state number call (not_over-own (machine.session state) number same)
      ∙ ap (λ (s : State). fenced_call machine s number call (machine.kept_for call s)) (stays-in_session state number same)

  -- so one of that session and after the number that is kept is let through
  pub later-through : (state : State) (later : Number) (call : Call) (kept : Kept) → later.session ≡ machine.session state → machine.kept_for call state ≡ Some kept → IsBefore kept.number later
      → IsLetThrough machine state later call
  later-through state later call kept same is before = record {
    not_over = not_over-own (machine.session state) later same;
    fresh = subst (λ (s : State). IsFresh (last_of (machine.kept_for call s)) later) (sym (stays-in_session state later same))
        (subst (λ (o : Option Kept). IsFresh (last_of o) later) (sym is) (fresh-after kept.number later before));
  }

  -- and is carried out in the state that there is
  pub later-carried_out : (state : State) (later : Number) (call : Call) (kept : Kept) → later.session ≡ machine.session state → machine.kept_for call state ≡ Some kept → IsBefore kept.number later
      → fenced machine state (call_frame later machine.party call) ≡ machine.carried_out state later call
  later-carried_out state later call kept same is before =
      is_carried_out state later call (later-through state later call kept same is before) ∙ ap (λ (s : State). machine.carried_out s later call) (stays-in_session state later same)
