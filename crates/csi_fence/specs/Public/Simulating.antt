-- A machine that does what another does, as the rows of a plugin do what its state does. This profile's own.
use Rattle.std.specs.Prelude.{◌≡◌, ℕ, IsTrue}
use Rattle.csi_types.specs.declared.number.Number.{Number}
use Rattle.csi_types.specs.declared.call.Call.{Call}
use Rattle.csi_types.specs.Model.Call.{kind_of}
use Rattle.csi_types.specs.Public.Call.{is_party_of}
use Rattle.csi_fence.specs.Model.Fenced.{Machine, Fenced}

-- both answered the same, and the states after it are related
pub record AreAlike {A B : Type 0} (shows : A → B → Type 0) (x : Fenced A) (y : Fenced B) : Type 0 where
  pub reply : x.reply ≡ y.reply
  pub after : shows x.state y.state

-- the first machine does what the second does, where its state is sound and shows the other's: the two know the same sessions and last
-- calls, and a session that begins and a call of the plugin that is carried out lead to states that show each other again
pub record Simulates {A B : Type 0} (a : Machine A) (b : Machine B) (is_sound : A → Type 0) (shows : A → B → Type 0) : Type 0 where
  pub party : a.party ≡ b.party
  pub session : (old : A) (state : B) → shows old state → a.session old ≡ b.session state
  pub begun_sound : (session : ℕ) (old : A) → is_sound old → is_sound (a.begun session old)
  pub begun : (session : ℕ) (old : A) (state : B) → is_sound old → shows old state → shows (a.begun session old) (b.begun session state)
  pub kept_for : (call : Call) (old : A) (state : B) → shows old state → a.kept_for call old ≡ b.kept_for call state
  pub carried_out : (number : Number) (call : Call) (old : A) (state : B) → IsTrue (is_party_of (kind_of call) a.party) → is_sound old → shows old state
      → AreAlike shows (a.carried_out old number call) (b.carried_out state number call)
