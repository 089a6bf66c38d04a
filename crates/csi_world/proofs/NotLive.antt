-- What is so of a name that has an id and no live volume, since that was deleted: its id was heard, so that no CreateVolume is sent for it
-- until the name is forgotten, and those that were sent are spent. So no volume of that name is made before that; and no call that was sent
-- before a name was forgotten makes or deletes a volume of it after that.
use Rattle.csi_world.proofs.Words.{◌≡◌, ◌⊎◌, ℕ, List, ◌∷◌, Bool, true, false, Some, None, is_some, IsTrue, refl, sym}
use Rattle.csi_world.proofs.Words.{◌∙◌, ap, subst, inl, inr, ⊎_elim, Call, Kind, Party, Reply, kind_of, PluginView}
use Rattle.csi_world.proofs.Words.{IsClosed, Frame, PluginThing, Exists, ThingForm, HasId, asked, has_id_by_rule}
use Rattle.csi_world.proofs.Words.{IsAmong, Issued, is_doing, Item, Sent, History, issued_in, IsGuarded, Number}
use Rattle.csi_world.proofs.Words.{ControllerState, arith}
use Rattle.csi_world.proofs.Lemmas.{false≢true, none-some, same_text-tells, none-from_map}
use Rattle.csi_types.specs.declared.call.Call.TheVariants as calls
use Rattle.csi_controller.specs.Public.View as controllers
use Rattle.csi_world.proofs.GivenIds.{GivenId, HasNow, AreOf, stays-gone}
use Rattle.csi_world.proofs.CallThings.{IsOwnOld, plugin_thing_at, is_plugin_thing, is_of, is_making}
use Rattle.csi_world.proofs.Lifetimes.{calls_since, calls_before}
use Rattle.csi_world.proofs.NamedCalls.{Named}
use Rattle.csi_world.proofs.SeenCalls.{thing_seen}
use Rattle.csi_world.proofs.CreatesFirst.{IsKnown, CreatesFirst, known-later, known-heard, making-guarded}
use Rattle.csi_world.proofs.RepliesTold.{IsChanged, IsEffect, asked-doing}

-- an id of the name was heard, and each CreateVolume that was sent for it is spent
pub record IsEnded (items : List Item) (view : PluginView) (name : List ℕ) : Type 0 where
  pub known : IsKnown items name
  pub spent : (call : Issued) → IsAmong call (issued_in items) → call.name ≡ name → is_making call.call ≡ true → IsTrue (view.is_spent (Exists name) call.number)

-- so it is of each name that has an id now and has no live volume
abbrev pub AreEnded : List GivenId → List Item → PluginView → Type 0
AreEnded given items view = (name : List ℕ) (id : ℕ) → HasNow given name id → view.held (Exists name) ≡ None → IsEnded items view name

-- a call of whether a volume is there is for its name
pub exists-named : (name other : List ℕ) (party : Party) (c : Call) → is_plugin_thing (Exists name) (plugin_thing_at other party c) ≡ true → other ≡ name
exists-named name other party c of = grind (arith, same_text-tells, false≢true)

-- a call that asks for a volume with an id makes one
pub asks-id : (c : Call) (reply : Reply) (id : ℕ) → asked c reply ≡ Some (HasId id) → is_making c ≡ true
asks-id c reply id e = grind (arith, none-some)

-- what makes a volume brings it about
making-does : (c : Call) → is_making c ≡ true → is_doing c ≡ true
making-does (calls.CreateVolume create required limit capabilities) making = refl
making-does c making = absurd (false≢true making)

-- a guarded call is sent: no CreateVolume for such a name
pub ended-sent : (given : List GivenId) (history : History) (view : PluginView) (call : Issued) → IsGuarded history call.name call.party call.call → AreEnded given history.items view
    → AreEnded given (Sent call ∷ history.items) view
ended-sent given history view call guard ended name id has none =
    let old = ended name id has none in
    record {
      known = known-later history.items (Sent call ∷ history.items) name (λ c there. inr there) (λ item there. inr there) old.known;
      spent = λ other among named making. spent old other named making among;
    }
  where
    spent : IsEnded history.items view name → (other : Issued) → other.name ≡ name → is_making other.call ≡ true → IsAmong other (call ∷ issued_in history.items) → IsTrue (view.is_spent (Exists name) other.number)
    spent old other named making (inr there) = old.spent other there named making
    spent old other named making (inl e) =
        let none = making-guarded history call.name call.party call.call guard (ap (λ (x : Issued). is_making x.call) (sym e) ∙ making) in
        absurd (known-heard history call.name (subst (IsKnown history.items) (sym named ∙ ap (λ (x : Issued). x.name) e) old.known) none)

-- what is so of the names without a live volume is so where volumes are seen as they were
pub ended-seen : (given : List GivenId) (items : List Item) (view after : PluginView) → ((name : List ℕ) → after.held (Exists name) ≡ view.held (Exists name))
    → ((name : List ℕ) (number : Number) → IsTrue (view.is_spent (Exists name) number) → IsTrue (after.is_spent (Exists name) number)) → AreEnded given items view → AreEnded given items after
ended-seen given items view after held spent ended name id has none =
    let so = ended name id has (sym (held name) ∙ none) in
    record { known = so.known; spent = λ call among named making. spent name call.number (so.spent call among named making) }

-- an item that sends nothing; the names that have ids after it had them, and their calls are as they were
pub ended-noted : (given more : List GivenId) (items : List Item) (item : Item) (view : PluginView) → issued_in (item ∷ items) ≡ issued_in items
    → ((name : List ℕ) (id : ℕ) → HasNow more name id → HasNow given name id × (calls_since (Exists name) (item ∷ items) ≡ calls_since (Exists name) items))
    → AreEnded given items view → AreEnded more (item ∷ items) view
ended-noted given more items item view same had ended name id has none = grind (arith, known-later)

-- a sent call that a plugin got, and what became of the things
module _ (items : List Item) (frames : List Frame) (old new : PluginView) (call : Issued) (thing : PluginThing) (kind : Kind) (reply : Reply) (effect : IsEffect (issued_in items) frames old new call thing kind reply) where
  -- the call is of the thing that it changed
  of_changed : (k : PluginThing) → k ≡ thing → is_of k call ≡ true
  of_changed k same = ap (λ x. is_of x call) same ∙ effect.of

  -- a name that has a live volume now and had none has it by a CreateVolume that wasn't spent
  pub not-ended : (name : List ℕ) (id : ℕ) → old.held (Exists name) ≡ None → new.held (Exists name) ≡ Some (HasId id) → IsEnded items old name → ⊥
  not-ended name id none now ended =
      ⊎_elim (λ same. none-some (HasId id) (sym none ∙ sym same ∙ now)) (λ changed.
      let named = exists-named name call.name call.party call.call (of_changed (Exists name) changed.same) in
      let making = asks-id call.call reply id (sym changed.now ∙ now) in
      let spent = ended.spent call effect.among named making in
      false≢true (sym changed.fresh ∙ ap (λ k. old.is_spent k call.number) (sym changed.same) ∙ spent)) (effect.held (Exists name))

  -- the thing is as it was, or the call, which was sent since the name was forgotten, was carried out
  abbrev pub IsLeftOrChanged : List ℕ → Type 0
  IsLeftOrChanged name =
      (new.held (Exists name) ≡ old.held (Exists name))
      ⊎ (IsChanged (issued_in items) frames old new call thing kind reply (Exists name) × IsAmong call (calls_since (Exists call.name) items))

  -- what is so of the names without a live volume is so then, where those that got an id since have one
  pub ended-answered : (given more : List GivenId) → IsClosed new → CreatesFirst items → ((name : List ℕ) → IsLeftOrChanged name) → AreEnded given items old
      → ((name : List ℕ) (id : ℕ) → HasNow more name id → HasNow given name id ⊎ ((form : ThingForm) × (new.held (Exists name) ≡ Some form))) → AreEnded more items new
  ended-answered given more closed creates changes ended newer name id has none =
      ⊎_elim (λ was. by was (changes name)) (λ now. absurd (none-some now.0 (sym none ∙ now.1))) (newer name id has)
    where
      by : HasNow given name id → IsLeftOrChanged name → IsEnded items new name
      by was (inl same) =
          let before = ended name id was (sym same ∙ none) in
          record { known = before.known; spent = λ other among named making. effect.spent (Exists name) other.number (before.spent other among named making) }
      by was (inr both) =
          let changed = both.0 in
          let named = exists-named name call.name call.party call.call (of_changed (Exists name) changed.same) in
          let undoing : is_making call.call ≡ false = not_making changed (is_making call.call) refl in
          record {
            known = subst (IsKnown items) named (creates.known call both.1 undoing);
            spent = λ other among same making.
                closed (Exists name) other.number call.number (creates.first other call among both.1 (same ∙ sym named) making undoing)
                (ap (λ k. new.is_spent k call.number) changed.same ∙ changed.spent);
          }
        where
          not_making : IsChanged (issued_in items) frames old new call thing kind reply (Exists name) → (b : Bool) → is_making call.call ≡ b → b ≡ false
          not_making changed false e = refl
          not_making changed true e =
              let rule : IsTrue (has_id_by_rule (kind_of call.call) reply) = ap (λ k. has_id_by_rule k reply) (sym changed.its_kind) ∙ effect.rule changed.ok in
              absurd (false≢true (ap is_some (sym none ∙ changed.now) ∙ asked-doing call.call reply (making-does call.call e) changed.ok rule))

-- ---- calls of before a name was forgotten

-- each such call of whether the volume is there is spent, or the controller doesn't have its volume
abbrev pub OldAreSpent : List Item → ControllerState → PluginView → Type 0
OldAreSpent items controller view =
    (call : Issued) → IsAmong call (calls_before (Exists call.name) items) → is_of (Exists call.name) call ≡ true
    → IsTrue (view.is_spent (Exists call.name) call.number) ⊎ (thing_seen controller call.party call.call ≡ None)

-- a call whose volume the controller doesn't have finds none later
pub unseen-stays : (old new : ControllerState) (given : List GivenId) (name : List ℕ) (party : Party) (call : Call) → controllers.KeepsNames old new → AreOf old given → IsOwnOld given name party call
    → is_plugin_thing (Exists name) (plugin_thing_at name party call) ≡ true → thing_seen old party call ≡ None → thing_seen new party call ≡ None
unseen-stays old new given name party call keeps of own is none = grind (arith, none-some, none-from_map, stays-gone, false≢true)

-- so it is with all of them after a plugin got a call
pub old-answered : (items : List Item) (frames : List Frame) (given : List GivenId) (old_controller new_controller : ControllerState) (old new : PluginView) → Named items frames given → controllers.KeepsNames old_controller new_controller
    → AreOf old_controller given → ((thing : PluginThing) (number : Number) → IsTrue (old.is_spent thing number) → IsTrue (new.is_spent thing number))
    → OldAreSpent items old_controller old → OldAreSpent items new_controller new
old-answered items frames given old_controller new_controller old new named keeps of spent so call among is =
    ⊎_elim (λ was. inl (spent (Exists call.name) call.number was))
    (λ none. inr (unseen-stays old_controller new_controller given call.name call.party call.call keeps of (named.own_old call among) is none)) (so call among is)
