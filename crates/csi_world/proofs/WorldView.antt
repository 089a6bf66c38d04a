-- A world seen thing by thing, each thing as the plugin has it to which it belongs; and what a call that one plugin
-- got does to the whole.
use Rattle.csi_world.proofs.Words.{◌≡◌, ◌⊎◌, ℕ, List, Bool, true, false, Option, Some, None, IsTrue, refl, sym, subst}
use Rattle.csi_world.proofs.Words.{inl, Number, Party, Controller, Node, PluginView, Delivery, Acts, Rests, Misses}
use Rattle.csi_world.proofs.Words.{IsSameView, IsClosed, kept_of, PluginThing, IsBefore, same_party, NodeState, is_over}
use Rattle.csi_world.proofs.Words.{World, node_state, arith}
use Rattle.csi_world.proofs.Lemmas.{same_party-tells}
use Rattle.csi_controller.specs.Public.View as controllers
use Rattle.csi_node.specs.Public.View as nodes
pub use Rattle.csi_world.proofs.Parties.{party_of}
use Rattle.csi_world.proofs.Lifetimes.{over_in, over-before}

-- a node that isn't there: no call of a session before the one in which it was lost will be carried out at one that joins
abbrev pub no_view : (PluginThing → ℕ) → PluginView
no_view over = record { held = λ thing. None; is_spent = λ thing number. is_over (over thing) number; kept = λ thing. None }

-- a node by its things, if it is there
abbrev pub node_view : List ℕ → (PluginThing → ℕ) → Option NodeState → PluginView
node_view node over None = no_view over
node_view node over (Some state) = nodes.view_of node state

-- the sessions in which things ended
abbrev pub over_at : World → PluginThing → ℕ
over_at world thing = over_in world.history.began world.history.items thing

-- a plugin by its things, where these ended in these sessions
abbrev pub plugin_with : World → (PluginThing → ℕ) → Party → PluginView
plugin_with world over Controller = controllers.view_of world.controller
plugin_with world over (Node id) = node_view id over (node_state id world)

-- a plugin by its things
abbrev pub plugin_view : World → Party → PluginView
plugin_view world = plugin_with world (over_at world)

-- the world by its things, where these ended in these sessions
abbrev pub view_with : World → (PluginThing → ℕ) → PluginView
view_with world over =
    record {
      held = λ thing. (plugin_with world over (party_of thing)).held thing;
      is_spent = λ thing number. (plugin_with world over (party_of thing)).is_spent thing number;
      kept = λ thing. (plugin_with world over (party_of thing)).kept thing;
    }

-- the world by its things
abbrev pub view_of : World → PluginView
view_of world = view_with world (over_at world)

-- the other plugins are as they were
abbrev pub ChangesOnly : Party → World → World → Type 0
ChangesOnly party old new = (other : Party) → same_party other party ≡ false → plugin_view new other ≡ plugin_view old other

-- a fact of two plugins' views, where the other plugins are as they were
pub for_each : (P : PluginView → PluginView → PluginThing → Type 0) (party : Party) (old new : World) → ChangesOnly party old new → (thing : PluginThing)
    → P (plugin_view old party) (plugin_view new party) thing → ((view : PluginView) → P view view thing)
    → P (plugin_view old (party_of thing)) (plugin_view new (party_of thing)) thing
for_each P party old new only thing its same = grind (arith, party_of, same_party-tells)

-- a call that acts on a thing of one plugin, while the others are as they were, acts so in the world
pub acts-all : (old new : World) (thing : PluginThing) (delivery : Delivery) → ChangesOnly (party_of thing) old new
    → Acts thing delivery (plugin_view old (party_of thing)) (plugin_view new (party_of thing)) → Acts thing delivery (view_of old) (view_of new)
acts-all old new thing delivery only acts =
    record {
      of_its_kind = acts.of_its_kind;
      with_id = acts.with_id;
      was_fresh = acts.was_fresh;
      done = acts.done;
      spent = acts.spent;
      refused = acts.refused;
      others = λ other differs. for_each (λ before after k. after.held k ≡ before.held k) (party_of thing) old new only other (acts.others other differs) (λ view. refl);
      stays_spent = λ other number spent. for_each (λ before after k. IsTrue (before.is_spent k number) → IsTrue (after.is_spent k number)) (party_of thing) old new only other (acts.stays_spent other number) (λ view h. h) spent;
      keeps = λ other. for_each (λ before after k. (after.kept k ≡ before.kept k) ⊎ (after.kept k ≡ Some (kept_of delivery)) ⊎ (after.kept k ≡ None)) (party_of thing) old new only other (acts.keeps other) (λ view. inl refl);
    }

-- where one plugin is as it was by its things, and the others are as they were, so is the world
pub same-all : (party : Party) (old new : World) → ChangesOnly party old new → IsSameView (plugin_view old party) (plugin_view new party) → IsSameView (view_of old) (view_of new)
same-all party old new only same =
    record {
      held = λ thing. for_each (λ before after k. after.held k ≡ before.held k) party old new only thing (same.held thing) (λ view. refl);
      is_spent = λ thing number. for_each (λ before after k. after.is_spent k number ≡ before.is_spent k number) party old new only thing (same.is_spent thing number) (λ view. refl);
      kept = λ thing. for_each (λ before after k. after.kept k ≡ before.kept k) party old new only thing (same.kept thing) (λ view. refl);
    }

-- a call that rests at one plugin, while the others are as they were, rests in the world
pub rests-all : (old new : World) (thing : PluginThing) (delivery : Delivery) → ChangesOnly (party_of thing) old new
    → Rests thing delivery (plugin_view old (party_of thing)) (plugin_view new (party_of thing)) → Rests thing delivery (view_of old) (view_of new)
rests-all old new thing delivery only rests =
    record { was_spent = rests.was_spent; was_kept = rests.was_kept; same = same-all (party_of thing) old new only rests.same }

-- a call that one plugin misses, while the others are as they were, the world misses
pub misses-all : (party : Party) (old new : World) (delivery : Delivery) → ChangesOnly party old new → Misses delivery (plugin_view old party) (plugin_view new party)
    → Misses delivery (view_of old) (view_of new)
misses-all party old new delivery only misses =
    record {
      of_its_kind = misses.of_its_kind;
      with_id = misses.with_id;
      undoes = misses.undoes;
      held = λ thing. for_each (λ before after k. after.held k ≡ before.held k) party old new only thing (misses.held thing) (λ view. refl);
      stays_spent = λ thing number spent. for_each (λ before after k. IsTrue (before.is_spent k number) → IsTrue (after.is_spent k number)) party old new only thing (misses.stays_spent thing number) (λ view h. h) spent;
      keeps = λ thing. for_each (λ before after k. (after.kept k ≡ before.kept k) ⊎ (after.kept k ≡ None)) party old new only thing (misses.keeps thing) (λ view. inl refl);
    }

-- what came before a spent number is spent
pub closed-all : (controller : (world : World) → IsClosed (controllers.view_of world.controller)) → (node : (id : List ℕ) (state : NodeState) → IsClosed (nodes.view_of id state))
    → (world : World) → IsClosed (view_of world)
closed-all controller node world = grind (arith, party_of, over-before)
