-- Views by the greatest session that came: what is spent there, and what becomes there of calls.
use Rattle.std.proofs.Common.{◌≡◌, ◌⊎◌, ℕ, true, false, refl, ◌∙◌, ap, inl, inr}
use Rattle.std.specs.Prelude.{◌≢◌, ◌||◌, Option, Some, None, IsTrue}
use Rattle.std.proofs.lemmas.Bool.{or_cases, or_left, or_right, or_from}
use Rattle.csi_types.specs.declared.number.Number.{Number}
use Rattle.csi_types.specs.declared.call.Call.{Call}
use Rattle.csi_types.specs.declared.status.Status.TheVariants.{Ok, Aborted}
use Rattle.csi_types.specs.Model.Call.{kind_of}
use Rattle.csi_types.specs.Public.PluginThing.{PluginThing, ThingForm, same_plugin_thing, asked}
use Rattle.csi_types.specs.Model.Replies.{stale_reply}
use Rattle.csi_types.specs.Public.Reply.{has_id_by_rule}
use Rattle.csi_fence.specs.Public.Delivery.{PluginView, view_by, Delivery, kept_of, last_of, Acts, Rests, CallBecomes, IsSameView, IsClosed, IsEmpty}
use Rattle.csi_fence.specs.Model.Fence.{Kept, is_spent, is_over}
use Rattle.csi_fence.proofs.Spent.{spent-earlier, own_spent, spent_still, none_over, over-earlier}

-- a view is the same as itself
pub same_view : (view : PluginView) → IsSameView view view
same_view view = record { held = λ thing. refl; is_spent = λ thing number. refl; kept = λ thing. refl }

-- what came before a number that is over or spent is so too
pub closed-view : (session : ℕ) (held : PluginThing → Option ThingForm) (kept : PluginThing → Option Kept) → IsClosed (view_by session held kept)
closed-view session held kept thing earlier later before spent = by (or_cases (is_over session later) (is_spent (last_of (kept thing)) later) spent)
  where
    by : (is_over session later ≡ true) ⊎ (is_spent (last_of (kept thing)) later ≡ true) → (is_over session earlier || is_spent (last_of (kept thing)) earlier) ≡ true
    by (inl over) = or_left (is_over session earlier) (is_spent (last_of (kept thing)) earlier) (over-earlier session earlier later before over)
    by (inr last) = or_right (is_over session earlier) (is_spent (last_of (kept thing)) earlier) (spent-earlier (last_of (kept thing)) earlier later before last)

-- where no session came, and nothing is there or kept, the view is empty
pub empty-view : (held : PluginThing → Option ThingForm) (kept : PluginThing → Option Kept) → ((thing : PluginThing) → held thing ≡ None) → ((thing : PluginThing) → kept thing ≡ None) → IsEmpty (view_by 0 held kept)
empty-view held kept no_form no_call =
    record {
      held = no_form;
      is_spent = λ thing number. or_from (is_over 0 number) (is_spent (last_of (kept thing)) number) (none_over number) (ap (λ (o : Option Kept). is_spent (last_of o) number) (no_call thing));
      kept = no_call;
    }

-- Aborted isn't OK
pub aborted : Aborted ≡ Ok → ⊥
aborted h = cc

-- what is kept for a thing then: what was, or this, and then what was kept didn't spend this number
abbrev pub IsLater : Kept → Option Kept → Option Kept → Type 0
IsLater kept old new = (new ≡ old) ⊎ ((new ≡ Some kept) × (is_spent (last_of old) kept.number ≡ false))

-- a number that was spent is spent by what is kept later
pub later_spent : (kept : Kept) (old new : Option Kept) (number : Number) → IsLater kept old new → is_spent (last_of old) number ≡ true → is_spent (last_of new) number ≡ true
later_spent kept old new number (inl same) spent = ap (λ (o : Option Kept). is_spent (last_of o) number) same ∙ spent
later_spent kept old new number (inr this) spent = ap (λ (o : Option Kept). is_spent (last_of o) number) this.0 ∙ spent_still (last_of old) kept.number number this.1 spent

-- what is kept later is what was kept, or the new call
pub either_kept : (kept : Kept) (old new : Option Kept) → IsLater kept old new → (new ≡ old) ⊎ (new ≡ Some kept) ⊎ (new ≡ None)
either_kept kept old new (inl same) = inl same
either_kept kept old new (inr this) = inr (inl this.0)

-- what a call that is carried out does to things, and what is kept of it
pub record Carries (thing : PluginThing) (delivery : Delivery) (held now_held : PluginThing → Option ThingForm) (kept now_kept : PluginThing → Option Kept) : Type 0 where
  pub of_its_kind : delivery.kind ≡ kind_of delivery.call
  pub with_id : delivery.reply.status ≡ Ok → IsTrue (has_id_by_rule delivery.kind delivery.reply)
  pub was_fresh : is_spent (last_of (kept thing)) delivery.number ≡ false
  pub done : delivery.reply.status ≡ Ok → now_held thing ≡ asked delivery.call delivery.reply
  pub refused : delivery.reply.status ≢ Ok → now_held thing ≡ held thing
  pub others : (other : PluginThing) → same_plugin_thing other thing ≡ false → now_held other ≡ held other
  pub own : delivery.reply.status ≡ Ok → now_kept thing ≡ Some (kept_of delivery)
  pub later : (other : PluginThing) → IsLater (kept_of delivery) (kept other) (now_kept other)

-- such a call acts, in its session
pub carried-acts : (session : ℕ) (thing : PluginThing) (delivery : Delivery) (held now_held : PluginThing → Option ThingForm) (kept now_kept : PluginThing → Option Kept) → is_over session delivery.number ≡ false
    → Carries thing delivery held now_held kept now_kept → Acts thing delivery (view_by session held kept) (view_by session now_held now_kept)
carried-acts session thing delivery held now_held kept now_kept not_over carries =
    record {
      of_its_kind = carries.of_its_kind;
      with_id = carries.with_id;
      was_fresh = or_from (is_over session delivery.number) (is_spent (last_of (kept thing)) delivery.number) not_over carries.was_fresh;
      done = carries.done;
      spent = λ ok.
          or_right (is_over session delivery.number) (is_spent (last_of (now_kept thing)) delivery.number)
          (ap (λ (o : Option Kept). is_spent (last_of o) delivery.number) (carries.own ok) ∙ own_spent delivery.number);
      refused = carries.refused;
      others = carries.others;
      stays_spent = λ other number spent. by other number (or_cases (is_over session number) (is_spent (last_of (kept other)) number) spent);
      keeps = λ other. either_kept (kept_of delivery) (kept other) (now_kept other) (carries.later other);
    }
  where
    by : (other : PluginThing) (number : Number) → (is_over session number ≡ true) ⊎ (is_spent (last_of (kept other)) number ≡ true) → (is_over session number || is_spent (last_of (now_kept other)) number) ≡ true
    by other number (inl over) = or_left (is_over session number) (is_spent (last_of (now_kept other)) number) over
    by other number (inr last) =
        or_right (is_over session number) (is_spent (last_of (now_kept other)) number) (later_spent (kept_of delivery) (kept other) (now_kept other) number (carries.later other) last)

-- a call whose number is spent for its thing, and that changes nothing, rests
pub spent-rests : (session : ℕ) (held : PluginThing → Option ThingForm) (kept : PluginThing → Option Kept) (thing : PluginThing) (delivery : Delivery) → is_spent (last_of (kept thing)) delivery.number ≡ true
    → (delivery.reply.status ≡ Ok → kept thing ≡ Some (kept_of delivery)) → Rests thing delivery (view_by session held kept) (view_by session held kept)
spent-rests session held kept thing delivery spent was_kept =
    record {
      was_spent = or_right (is_over session delivery.number) (is_spent (last_of (kept thing)) delivery.number) spent;
      was_kept = was_kept;
      same = same_view (view_by session held kept);
    }

-- a call that is over, by the reply that it gets
abbrev pub stale_delivery : Number → Call → Delivery
stale_delivery number call = record { number = number; call = call; kind = kind_of call; reply = stale_reply }

-- it rests, or misses where the plugin has no volume of it
pub over-becomes : (session : ℕ) (held : PluginThing → Option ThingForm) (kept : PluginThing → Option Kept) (o : Option PluginThing) (number : Number) (call : Call) → is_over session number ≡ true
    → CallBecomes o (stale_delivery number call) (view_by session held kept) (view_by session held kept)
over-becomes session held kept None number call over =
    record {
      of_its_kind = refl;
      with_id = λ ok. absurd (aborted ok);
      undoes = λ ok. absurd (aborted ok);
      held = λ thing. refl;
      stays_spent = λ thing number spent. spent;
      keeps = λ thing. inl refl;
    }
over-becomes session held kept (Some thing) number call over =
    inr (record {
      was_spent = or_left (is_over session number) (is_spent (last_of (kept thing)) number) over;
      was_kept = λ ok. absurd (aborted ok);
      same = same_view (view_by session held kept);
    })
