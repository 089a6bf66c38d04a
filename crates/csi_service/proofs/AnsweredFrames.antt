-- A frame that is no call for a plugin gets no answer and changes nothing; and each call for it gets one.
use Rattle.std.proofs.Common.{◌≡◌, sym, refl, subst, inl, inr, Bool, true, false, cond}
use Rattle.std.specs.Prelude.{◌↔◌, Option, Some, None, IsSome, IsTrue, IfSome, option_map, Result, Ok, Err, IfOk, OnErr}
use Rattle.csi_types.proofs.Options.{some_is_not_none}
use Rattle.csi_types.proofs.Equality.{same_party-tells}
use Rattle.csi_types.specs.declared.number.Number.{Number}
use Rattle.csi_types.specs.declared.call.Call.{Call}
use Rattle.csi_types.specs.declared.call.Party.{Party}
use Rattle.csi_types.specs.declared.frame.Body.{Body}
use Rattle.csi_types.specs.declared.frame.Body.TheVariants as bodies
use Rattle.csi_types.specs.Model.Frame.{Frame}
use Rattle.csi_types.specs.Model.Replies.{call_frame}
use Rattle.csi_types.specs.Model.Same.{same_party}
use Rattle.csi_fence.specs.Model.Fenced.{Fenced, Machine, answered_in, unanswered, fenced_parts, fenced}
use Rattle.csi_fence.proofs.Judged.{Judgement, was_over, was_fresh, was_repeated, was_stale, was_answered}
use Rattle.csi_frames.specs.Public.Lent.{call_in}
use Rattle.csi_service.specs.Private.Calls.{IsNoCallFor}

module _ {State : Type 0} (machine : Machine State) (state : State) where
  -- by the body, where it is no call
  passed-reply : (number : Number) (party : Party) (body : Body) → call_in body ≡ None → fenced_parts machine state number party body ≡ unanswered state
  passed-reply number party (bodies.Call call) e = absurd (some_is_not_none call e)
  passed-reply number party (bodies.Reply kind reply) e = refl

  -- by the party, where it is another
  passed-party : (number : Number) (party : Party) (body : Body) → (party ≡ machine.party → ⊥) → fenced_parts machine state number party body ≡ unanswered state
  passed-party number party (bodies.Call call) other = by (same_party party machine.party) refl
    where
      by : (b : Bool) → same_party party machine.party ≡ b → cond b (answered_in machine state number call) (unanswered state) ≡ unanswered state
      by true t = absurd (other ((same_party-tells party machine.party).0 t))
      by false t = refl
  passed-party number party (bodies.Reply kind reply) other = refl

  -- a frame that is no call for the plugin
  pub passed : (frame : Frame) → IsNoCallFor machine.party frame → fenced machine state frame ≡ unanswered state
  passed frame (inl other) = passed-party frame.number frame.party frame.body other
  passed frame (inr none) = passed-reply frame.number frame.party frame.body none

  module _ (number : Number) (call : Call) (carries : (begun : State) → (frame : Frame) × ((machine.carried_out begun number call).reply ≡ Some frame)) where
    -- whatever the fence makes of a call
    judged-reply : (after : Fenced State) → Judgement machine state number call after → (frame : Frame) × (after.reply ≡ Some frame)
    judged-reply _ (was_over over) = (_, refl)
    judged-reply _ (was_fresh not_over fresh) = carries _
    judged-reply _ (was_repeated kept not_over is spent same) = (_, refl)
    judged-reply _ (was_stale kept not_over is spent) = (_, refl)

    -- where the table replies to each call, each call gets a reply
    pub has-reply : (frame : Frame) × ((fenced machine state (call_frame number machine.party call)).reply ≡ Some frame)
    has-reply = judged-reply _ (was_answered machine state number call)

-- ---- by whether the frame is for the plugin

-- where the test says that a frame isn't for this party, it isn't
pub not-for : (result : Bool) (own party : Party) → IsTrue result ↔ (own ≡ party) → result ≡ false → own ≡ party → ⊥
not-for true own party tells e same = cc
not-for false own party tells e same = let t : false ≡ true = tells.1 same in cc

-- ---- the answer itself

-- it is there, where its frame is
pub some-answer : {A B : Type 0} (f : A → B) (o : Option A) (b : B) → option_map f o ≡ Some b → IsSome o
some-answer f None b e = absurd (some_is_not_none b (sym e))
some-answer f (Some a) b e = refl

-- what is so of it if it is there is so of it
pub told-answer : {A : Type 0} (P : A → Type 0) (o : Option A) (a : A) → o ≡ Some a → IfSome o P → P a
told-answer P o a is told = subst (λ (x : Option _). IfSome x P) is told

-- what follows of it is so of each that a call may give
pub answer-weaker : {A E : Type 0} (P Q : A → Type 0) (result : Result (Option A) E) → ((a : A) → P a → Q a) → IfOk result (λ o. IfSome o P) → IfOk result (λ o. IfSome o Q)
answer-weaker P Q (Ok None) weaker is = tt
answer-weaker P Q (Ok (Some a)) weaker is = weaker a is
answer-weaker P Q (Err why) weaker is = tt

-- two facts of a refusal
pub refusal-both : {A E : Type 0} (P Q : Type 0) (result : Result A E) → OnErr result P → OnErr result Q → OnErr result (P × Q)
refusal-both P Q (Ok a) is is_too = tt
refusal-both P Q (Err why) is is_too = (is, is_too)
