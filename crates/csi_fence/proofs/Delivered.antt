-- A call that is answered is delivered as the laws say, whatever the fence makes of it, where it is so once it is carried out.
use Rattle.std.proofs.Common.{◌≡◌, ℕ, true, false, refl, sym, ◌∙◌, ap, inr}
use Rattle.std.specs.Prelude.{Option, Some, None}
use Rattle.std.proofs.lemmas.Bool.{false≢true}
use Rattle.csi_types.specs.declared.number.Number.{Number}
use Rattle.csi_types.specs.declared.call.Call.{Call}
use Rattle.csi_types.specs.declared.status.Status.TheVariants.{Ok}
use Rattle.csi_types.specs.Model.Call.{kind_of}
use Rattle.csi_types.specs.Public.PluginThing.{PluginThing, ThingForm}
use Rattle.csi_types.specs.Model.Replies.{stale_reply}
use Rattle.csi_fence.specs.Public.Delivery.{PluginView, view_by, Delivery, kept_of, last_of, CallBecomes, IsDelivered}
use Rattle.csi_fence.specs.Model.Fence.{Kept, is_spent, is_over, begins}
use Rattle.csi_fence.specs.Model.Fenced.{Fenced, Machine, in_session, answered_only, answered_in}
use Rattle.csi_fence.proofs.Judged.{Judgement, was_over, was_fresh, was_repeated, was_stale, was_judged}
use Rattle.csi_fence.proofs.Views.{aborted, spent-rests, over-becomes}
use Rattle.csi_fence.proofs.Begun.{HasBegun, delivered-in_session}

-- what is kept for a call is what is kept for its thing; where it has none, nothing is
abbrev pub IsKeptFor : Option PluginThing → (PluginThing → Option Kept) → Option Kept → Type 0
IsKeptFor None kept own = own ≡ None
IsKeptFor (Some thing) kept own = kept thing ≡ own

-- what is kept is the same under its own number
renumbered : (kept : Kept) (number : Number) → number ≡ kept.number → kept ≡ record { number = number; kind = kept.kind; reply = kept.reply }
renumbered kept number same = let back = sym same in λ i. record { number = back i; kind = kept.kind; reply = kept.reply }

-- a call whose number is spent, and that changes nothing, rests
pub spent-becomes : (session : ℕ) (held : PluginThing → Option ThingForm) (kept : PluginThing → Option Kept) (o : Option PluginThing) (own : Option Kept) (delivery : Delivery) → IsKeptFor o kept own
    → is_spent (last_of own) delivery.number ≡ true → (delivery.reply.status ≡ Ok → own ≡ Some (kept_of delivery)) → CallBecomes o delivery (view_by session held kept) (view_by session held kept)
spent-becomes session held kept None own delivery is spent was_kept = absurd (false≢true (sym (ap (λ (k : Option Kept). is_spent (last_of k) delivery.number) is) ∙ spent))
spent-becomes session held kept (Some thing) own delivery is spent was_kept =
    inr (spent-rests session held kept thing delivery (ap (λ (k : Option Kept). is_spent (last_of k) delivery.number) is ∙ spent) (λ ok. is ∙ was_kept ok))

-- the state by its things
abbrev pub view_in : {State : Type 0} → Machine State → (State → PluginThing → Option ThingForm) → (State → PluginThing → Option Kept) → State → PluginView
view_in machine held kept state = view_by (machine.session state) (held state) (kept state)

module _ {State : Type 0} (machine : Machine State) (held : State → PluginThing → Option ThingForm) (kept : State → PluginThing → Option Kept) (state : State) (number : Number) (call : Call) (o : Option PluginThing) where
  -- the state in which the call is judged, unless it is over
  abbrev now : State
  now = in_session machine number state

  -- the call is delivered so, from one state to another, with this answer
  abbrev IsDeliveredBy : State → Fenced State → Type 0
  IsDeliveredBy old fenced = IsDelivered machine.party number call o (view_in machine held kept old) (view_in machine held kept fenced.state) fenced.reply

  module _ (has : begins (machine.session state) number ≡ true → HasBegun number (view_in machine held kept state) (view_in machine held kept (machine.begun number.session state)))
      (is_kept : IsKeptFor o (kept now) (machine.kept_for call now))
      (carried : is_over (machine.session state) number ≡ false → is_spent (last_of (machine.kept_for call now)) number ≡ false → IsDeliveredBy now (machine.carried_out now number call)) where
    -- from the state in which it is judged
    from_now : (fenced : Fenced State) → IsDeliveredBy now fenced → IsDeliveredBy state fenced
    from_now fenced delivered = delivered-in_session machine (view_in machine held kept) state machine.party number call o (view_in machine held kept fenced.state) fenced.reply has delivered

    by_judgement : (fenced : Fenced State) → Judgement machine state number call fenced → IsDeliveredBy state fenced
    by_judgement _ (was_over over) = record {
      kind = kind_of call;
      reply = stale_reply;
      is_answer = refl;
      becomes = over-becomes (machine.session state) (held state) (kept state) o number call over;
    }
    by_judgement _ (was_fresh not_over fresh) = from_now (machine.carried_out now number call) (carried not_over fresh)
    by_judgement _ (was_repeated k not_over is spent same) =
        from_now (answered_only machine now number k.kind k.reply) (record {
          kind = k.kind;
          reply = k.reply;
          is_answer = refl;
          becomes = spent-becomes (machine.session now) (held now) (kept now) o (machine.kept_for call now) (record { number = number; call = call; kind = k.kind; reply = k.reply }) is_kept spent
              (λ ok. is ∙ ap Some (renumbered k number same));
        })
    by_judgement _ (was_stale k not_over is spent) =
        from_now (answered_only machine now number (kind_of call) stale_reply) (record {
          kind = kind_of call;
          reply = stale_reply;
          is_answer = refl;
          becomes = spent-becomes (machine.session now) (held now) (kept now) o (machine.kept_for call now) (record { number = number; call = call; kind = kind_of call; reply = stale_reply }) is_kept spent
              (λ ok. absurd (aborted ok));
        })

    -- whatever the fence makes of it
    pub answered-delivered : IsDeliveredBy state (answered_in machine state number call)
    answered-delivered = by_judgement (answered_in machine state number call) (was_judged machine state number call)
