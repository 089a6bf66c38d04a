-- What a call that is delivered to a plugin does there, seen thing by thing. Both plugins keep these laws, under
-- whatever fence they have, and what is safe of a world is told by them alone. This profile's own.
use Rattle.std.specs.Prelude.{◌≡◌, ◌≢◌, ◌⊎◌, ℕ, ◌||◌, Bool, false, Option, Some, None, option_map, IsTrue}
use Rattle.csi_types.specs.declared.number.Number.{Number}
use Rattle.csi_types.specs.declared.call.Call.{Call}
use Rattle.csi_types.specs.declared.call.Kind.{Kind}
use Rattle.csi_types.specs.declared.call.Party.{Party}
use Rattle.csi_types.specs.declared.status.Status.TheVariants.{Ok}
use Rattle.csi_types.specs.declared.reply.Reply.{Reply}
use Rattle.csi_types.specs.Model.Call.{kind_of}
use Rattle.csi_fence.specs.Model.Fence.{Kept, is_spent, is_over}
use Rattle.csi_types.specs.Model.Frame.{Frame}
use Rattle.csi_types.specs.Public.PluginThing.{PluginThing, ThingForm, same_plugin_thing, asked}
use Rattle.csi_types.specs.Model.Number.{IsBefore}
use Rattle.csi_types.specs.Model.Replies.{reply_frame}
use Rattle.csi_types.specs.Public.Reply.{has_id_by_rule}

-- a plugin by its things: how each is there, if it is; which call numbers are spent for it, so that no call of that
-- number will be carried out; and what is kept of the last call that was answered for its volume
pub record PluginView : Type 0 where
  pub held : PluginThing → Option ThingForm
  pub is_spent : PluginThing → Number → Bool
  pub kept : PluginThing → Option Kept

-- the number of the last call that was answered
abbrev pub last_of : Option Kept → Option Number
last_of kept = option_map (λ kept. kept.number) kept

-- the view of a plugin by the greatest session that came, by what is there and by what is kept: a number is spent that is over,
-- or that the last one kept has spent
abbrev pub view_by : ℕ → (PluginThing → Option ThingForm) → (PluginThing → Option Kept) → PluginView
view_by session held kept =
    record { held = held; is_spent = λ thing number. is_over session number || is_spent (last_of (kept thing)) number; kept = kept }

-- a call with its number, and the reply that it got; the reply's kind is another than the call's where it is the
-- one that was kept for that number
pub record Delivery : Type 0 where
  pub number : Number
  pub call : Call
  pub kind : Kind
  pub reply : Reply

-- what a plugin keeps of it
abbrev pub kept_of : Delivery → Kept
kept_of delivery = record { number = delivery.number; kind = delivery.kind; reply = delivery.reply }

-- the call was carried out. Its number wasn't spent. After an OK, which has an id where it must, its thing is as asked
-- and the number is spent; after a refusal the thing is as it was. Other things are as they were, and what was spent
-- stays so. What is kept then was kept before, or is this reply; or nothing is kept any more
pub record Acts (thing : PluginThing) (delivery : Delivery) (old new : PluginView) : Type 0 where
  pub of_its_kind : delivery.kind ≡ kind_of delivery.call
  pub with_id : delivery.reply.status ≡ Ok → IsTrue (has_id_by_rule delivery.kind delivery.reply)
  pub was_fresh : old.is_spent thing delivery.number ≡ false
  pub done : delivery.reply.status ≡ Ok → new.held thing ≡ asked delivery.call delivery.reply
  pub spent : delivery.reply.status ≡ Ok → IsTrue (new.is_spent thing delivery.number)
  pub refused : delivery.reply.status ≢ Ok → new.held thing ≡ old.held thing
  pub others : (other : PluginThing) → same_plugin_thing other thing ≡ false → new.held other ≡ old.held other
  pub stays_spent : (other : PluginThing) (number : Number) → IsTrue (old.is_spent other number) → IsTrue (new.is_spent other number)
  pub keeps : (other : PluginThing) → (new.kept other ≡ old.kept other) ⊎ (new.kept other ≡ Some (kept_of delivery)) ⊎ (new.kept other ≡ None)

-- nothing changes
pub record IsSameView (old new : PluginView) : Type 0 where
  pub held : (thing : PluginThing) → new.held thing ≡ old.held thing
  pub is_spent : (thing : PluginThing) (number : Number) → new.is_spent thing number ≡ old.is_spent thing number
  pub kept : (thing : PluginThing) → new.kept thing ≡ old.kept thing

-- the call wasn't carried out, and nothing changes. Its number was spent. An OK is the reply that was kept for this
-- number
pub record Rests (thing : PluginThing) (delivery : Delivery) (old new : PluginView) : Type 0 where
  pub was_spent : IsTrue (old.is_spent thing delivery.number)
  pub was_kept : delivery.reply.status ≡ Ok → old.kept thing ≡ Some (kept_of delivery)
  pub same : IsSameView old new

-- the plugin has no volume of the call. Things are as they were, what was spent stays so, and what is kept was kept before,
-- or nothing is kept any more. An OK, which has an id where it must, asks for nothing
pub record Misses (delivery : Delivery) (old new : PluginView) : Type 0 where
  pub of_its_kind : delivery.kind ≡ kind_of delivery.call
  pub with_id : delivery.reply.status ≡ Ok → IsTrue (has_id_by_rule delivery.kind delivery.reply)
  pub undoes : delivery.reply.status ≡ Ok → asked delivery.call delivery.reply ≡ None
  pub held : (thing : PluginThing) → new.held thing ≡ old.held thing
  pub stays_spent : (thing : PluginThing) (number : Number) → IsTrue (old.is_spent thing number) → IsTrue (new.is_spent thing number)
  pub keeps : (thing : PluginThing) → (new.kept thing ≡ old.kept thing) ⊎ (new.kept thing ≡ None)

-- what becomes of a call: by its thing, if the plugin has its volume; else it misses it
abbrev pub CallBecomes : Option PluginThing → Delivery → PluginView → PluginView → Type 0
CallBecomes None delivery old new = Misses delivery old new
CallBecomes (Some thing) delivery old new = Acts thing delivery old new ⊎ Rests thing delivery old new

-- what came before a spent number is spent
abbrev pub IsClosed : PluginView → Type 0
IsClosed view =
    (thing : PluginThing) (earlier later : Number) → IsBefore earlier later → IsTrue (view.is_spent thing later) → IsTrue (view.is_spent thing earlier)

-- nothing is there, spent or kept
pub record IsEmpty (view : PluginView) : Type 0 where
  pub held : (thing : PluginThing) → view.held thing ≡ None
  pub is_spent : (thing : PluginThing) (number : Number) → view.is_spent thing number ≡ false
  pub kept : (thing : PluginThing) → view.kept thing ≡ None

-- the plugin of this party answered the call by a frame, and the call became of it what these laws say
pub record IsDelivered (party : Party) (number : Number) (call : Call) (thing : Option PluginThing) (old new : PluginView) (answer : Option Frame) : Type 0 where
  pub kind : Kind
  pub reply : Reply
  pub is_answer : answer ≡ Some (reply_frame number party kind reply)
  pub becomes : CallBecomes thing (record { number = number; call = call; kind = kind; reply = reply }) old new
