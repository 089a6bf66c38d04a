-- What is so of a world after one plugin's session was raised: all is there as it was, and no fewer numbers are spent.
use Rattle.csi_world.proofs.Words.{◌≡◌, ◌⊎◌, ℕ, ◌<◌, ◌≤◌, List, map, filter, Bool, true, false, cond, Option, Some}
use Rattle.csi_world.proofs.Words.{None, IsTrue, ◌==◌, refl, sym, ◌∙◌, ap, subst, inl, inr, ⊎_elim, arith, nat_lt}
use Rattle.csi_world.proofs.Words.{Party, Controller, Node, Number, same_text, PluginThing, Exists, Attached, Staged}
use Rattle.csi_world.proofs.Words.{Published, Kept, PluginView, Volume, ControllerState, NodeState, issued_in, NodeAt}
use Rattle.csi_world.proofs.Words.{World, node_state, with_state, with_node}
use Rattle.csi_world.proofs.Lemmas.{lt-ltb, ltb-true, or_cases, or_left, or_right, none-some, among-find, among-kept}
use Rattle.csi_world.proofs.Lemmas.{same_text-tells, IsOrderly, AreCurrent, all_current}
use Rattle.csi_fence.proofs.Begun.{HasBegun}
use Rattle.csi_controller.specs.Model.Fenced as controllers
use Rattle.csi_controller.specs.Public.View as controller_views
use Rattle.csi_controller.specs.Public.View.{AreNamed, KeepsNames}
use Rattle.csi_controller.proofs.BegunThings as controller_things
use Rattle.csi_controller.proofs.Forgotten.{live_volume-begun}
use Rattle.csi_controller.proofs.NamesLaw.{keeps_names}
use Rattle.csi_node.specs.Model.Fenced as nodes
use Rattle.csi_node.specs.Public.View as node_views
use Rattle.csi_node.proofs.DeliveryLaw as node_things
use Rattle.csi_recovery.specs.Public.Laws.{node_raised, plugin_raised}
use Rattle.csi_world.proofs.WorldView.{node_view, over_at, view_of}
use Rattle.csi_world.proofs.GivenIds.{GivenId, AreOf, stays-forgotten, is_forgotten}
use Rattle.csi_world.proofs.Lifetimes.{latest}
use Rattle.csi_world.proofs.NotLive.{ended-seen, old-answered}
use Rattle.csi_world.proofs.Forgotten.{is_past_name, is_told, told_by, closed-told}
use Rattle.csi_world.proofs.RepliesTold.{AreEnding, truth-ended}
use Rattle.csi_world.proofs.StagedAttached.{stands-ended}
use Rattle.csi_world.proofs.KnownThings.{IsSoFar}
use Rattle.csi_world.proofs.RecordedRight.{IsWell}
use Rattle.csi_world.proofs.PluginsReached.{IsReached, controller-begun, regular-named, found-at, node-of-frames, node-next, node_state-same, node_state-other, with_node-same}
use Rattle.csi_world.proofs.Floors.{HasFloor, floor-with_state}
use Rattle.csi_world.proofs.DeliveredCalls.{with_plugins}
use Rattle.csi_world.proofs.Deliveries.{PluginLaws, all-closed, names-stay}
use Rattle.csi_world.proofs.RightWorlds.{IsRight}
use Rattle.csi_recovery.proofs.RaisedPlugins.{number_of, controller_frame, controller-same, node_frame, node-same}

-- all is there as it was, no fewer numbers are spent, and what is kept was kept
pub record KeepsView (old new : PluginView) : Type 0 where
  pub held : (thing : PluginThing) → new.held thing ≡ old.held thing
  pub spent : (thing : PluginThing) (number : Number) → IsTrue (old.is_spent thing number) → IsTrue (new.is_spent thing number)
  pub kept : (thing : PluginThing) (x : Kept) → new.kept thing ≡ Some x → old.kept thing ≡ Some x

-- a raise isn't later
abbrev IsRaised : ℕ → ℕ → Type 0
IsRaised session own = own < session

module _ (laws : PluginLaws) (world : World) (right : IsRight world) where
  abbrev given : List GivenId
  given = right.good.given

  -- the world is as it has to be
  well : IsWell world given
  well = right.good.well

  -- what is told of it
  abbrev so_far : IsSoFar world.history world.frames (told_by given world) given
  so_far = (right.good.well).so_far

  -- all that is kept of a world is so of it where the plugins know no less
  kept-right : (controller : ControllerState) (ns : List NodeAt) → IsReached (with_plugins world controller ns) → HasFloor so_far.floor (with_plugins world controller ns) → AreOf controller given → KeepsNames world.controller controller
      → KeepsView (view_of world) (view_of (with_plugins world controller ns)) → IsRight (with_plugins world controller ns)
  kept-right controller ns reached floor of keeps view =
      record {
        good = record {
          reached = reached;
          given = given;
          floor = floor;
          well = record {
            so_far = record {
              floor = so_far.floor;
              truth = truth-ended so_far.floor (issued_in world.history.items) (latest world.history.items) (latest world.history.items) world.frames (told_by given world) (told_by given next) ending so_far.truth;
              closed = closed-told given next (all-closed laws next);
              named = so_far.named;
              are_given = so_far.are_given;
              heard = so_far.heard;
              stands = stands-ended world.history.items (latest world.history.items) (latest world.history.items) (told_by given world) (told_by given next) ending so_far.stands;
              timed = so_far.timed;
              undone = so_far.undone;
            };
            of_controller = of;
            creates = right.good.well.creates;
            ended = ended-seen given world.history.items (view_of world) (view_of next) (λ name. view.held (Exists name)) (λ name number. view.spent (Exists name) number) right.good.well.ended;
            old_spent = old-answered world.history.items world.frames given world.controller controller (view_of world) (view_of next) so_far.named keeps right.good.well.of_controller view.spent right.good.well.old_spent;
          };
        };
        last = right.last;
      }
    where
      next : World
      next = with_plugins world controller ns

      more : (thing : PluginThing) (number : Number) → is_told given world thing number ≡ true → is_told given (with_plugins world controller ns) thing number ≡ true
      more thing number told =
          ⊎_elim (λ gone. or_left (is_forgotten given controller thing) (is_past_name (over_at world) thing number) (stays-forgotten world.controller controller given given thing keeps right.good.well.of_controller (λ one among. among) gone))
          (λ past. or_right (is_forgotten given controller thing) (is_past_name (over_at world) thing number) past) (or_cases (is_forgotten given world.controller thing) (is_past_name (over_at world) thing number) told)

      ending : AreEnding (issued_in world.history.items) (latest world.history.items) (latest world.history.items) (told_by given world) (told_by given (with_plugins world controller ns))
      ending thing =
          inl (record {
            latest = refl;
            held = view.held thing;
            spent = λ call among of spent.
                ⊎_elim (λ plain. or_left ((view_of (with_plugins world controller ns)).is_spent thing call.number) (is_told given (with_plugins world controller ns) thing call.number) (view.spent thing call.number plain))
                (λ told. or_right ((view_of (with_plugins world controller ns)).is_spent thing call.number) (is_told given (with_plugins world controller ns) thing call.number) (more thing call.number told))
                (or_cases ((view_of world).is_spent thing call.number) (is_told given world thing call.number) spent);
            kept = view.kept thing;
          })

  -- ---- the controller

  -- it has begun the session
  controller-raised : (session : ℕ) → IsRaised session world.controller.session → IsRight (with_plugins world (controllers.begun session world.controller) world.nodes)
  controller-raised session later =
      kept-right (controllers.begun session world.controller) world.nodes
      (record { controller = controller-begun session world.controller later right.good.reached.controller; nodes = right.good.reached.nodes; alike = right.good.reached.alike })
      (record { controller = up (right.good.floor).controller; nodes = (right.good.floor).nodes; last = (right.good.floor).last }) of keeps view
    where
      named : AreNamed world.controller
      named = regular-named world.controller right.good.reached.controller

      orderly : IsOrderly world.controller
      orderly = right.good.reached.controller.orderly

      up : {floor : ℕ} → floor ≤ world.controller.session → floor ≤ session
      up {floor} above = omega (arith, above, later)

      of : AreOf (controllers.begun session world.controller) right.good.given
      of =
          record {
            names = regular-named (controllers.begun session world.controller) (controller-begun session world.controller later right.good.reached.controller);
            below = right.good.well.of_controller.below;
            listed = λ id volume is.
                let there = (among-kept (λ (v : Volume). v.is_live) world.controller.volumes volume (among-find (λ (v : Volume). v.id == id) (filter (λ (v : Volume). v.is_live) world.controller.volumes) volume is)).0 in
                right.good.well.of_controller.listed volume.id volume (orderly volume there).by_id;
            ended = λ name id had. live_volume-begun session world.controller id ∙ right.good.well.of_controller.ended name id had;
          }

      keeps : KeepsNames world.controller (controllers.begun session world.controller)
      keeps =
          subst (KeepsNames world.controller) (controller-same world.config session world.controller named later)
          (keeps_names world.config world.controller (controller_frame session world.controller) orderly)

      begun : HasBegun (number_of session) (controller_views.view_of world.controller) (controller_views.view_of (controllers.begun session world.controller))
      begun = controller_things.has_begun world.controller (number_of session) orderly right.good.reached.controller.recent (lt-ltb world.controller.session session later)

      view : KeepsView (view_of world) (view_of (with_plugins world (controllers.begun session world.controller) world.nodes))
      view = record { held = held; spent = spent; kept = kept }
        where
          held : (thing : PluginThing) → (view_of (with_plugins world (controllers.begun session world.controller) world.nodes)).held thing ≡ (view_of world).held thing
          held (Exists name) = begun.held (Exists name)
          held (Attached id node) = begun.held (Attached id node)
          held (Staged id node) = refl
          held (Published id node target) = refl

          spent : (thing : PluginThing) (number : Number) → IsTrue ((view_of world).is_spent thing number) → IsTrue ((view_of (with_plugins world (controllers.begun session world.controller) world.nodes)).is_spent thing number)
          spent (Exists name) number was = begun.stays_spent (Exists name) number was
          spent (Attached id node) number was = begun.stays_spent (Attached id node) number was
          spent (Staged id node) number was = was
          spent (Published id node target) number was = was

          from : {now before : Option Kept} (x : Kept) → (now ≡ before) ⊎ (now ≡ None) → now ≡ Some x → before ≡ Some x
          from x (inl same) is = sym same ∙ is
          from x (inr none) is = absurd (none-some x (sym none ∙ is))

          kept : (thing : PluginThing) (x : Kept) → (view_of (with_plugins world (controllers.begun session world.controller) world.nodes)).kept thing ≡ Some x → (view_of world).kept thing ≡ Some x
          kept (Exists name) x is = from x (begun.keeps (Exists name)) is
          kept (Attached id node) x is = from x (begun.keeps (Attached id node)) is
          kept (Staged id node) x is = is
          kept (Published id node target) x is = is

  -- ---- a node

  -- it has begun the session
  node-begins : (id : List ℕ) (state : NodeState) (session : ℕ) → node_state id world ≡ Some state → state.session < session → IsRight (with_node id (nodes.begun session state) world)
  node-begins id state session is later =
      kept-right world.controller (map (with_state id (nodes.begun session state)) world.nodes)
      (subst (λ (s : NodeState). IsReached (with_node id s world)) (node-same id session state later) (node-next world id state (node_frame session id) right.good.reached is))
      (record {
        controller = (right.good.floor).controller;
        nodes = floor-with_state so_far.floor id (nodes.begun session state) world.nodes (up own) (right.good.floor).nodes;
        last = (right.good.floor).last;
      })
      right.good.well.of_controller (names-stay world.controller) (record { held = held; spent = spent; kept = kept })
    where
      own : (right.good.well.so_far).floor ≤ state.session
      own = let there = found-at id world state is in subst (λ (s : NodeState). (right.good.well.so_far).floor ≤ s.session) there.3 ((right.good.floor).nodes there.0 there.1)

      up : {floor : ℕ} → floor ≤ state.session → floor ≤ session
      up {floor} above = omega (arith, above, later)

      current : AreCurrent state
      current = let of = node-of-frames world id state right.good.reached is in subst AreCurrent (sym of.2) (all_current id of.0 of.1)

      begun : HasBegun (number_of session) (node_views.view_of id state) (node_views.view_of id (nodes.begun session state))
      begun = node_things.has_begun id state current (number_of session) (lt-ltb state.session session later)

      -- each node is as it was, or has begun the session
      views : (n : List ℕ) → (node_view n (over_at world) (node_state n (with_node id (nodes.begun session state) world)) ≡ node_view n (over_at world) (node_state n world))
          ⊎ HasBegun (number_of session) (node_view n (over_at world) (node_state n world)) (node_view n (over_at world) (node_state n (with_node id (nodes.begun session state) world)))
      views n = by (same_text n id) refl
        where
          by : (b : Bool) → same_text n id ≡ b → (node_view n (over_at world) (node_state n (with_node id (nodes.begun session state) world)) ≡ node_view n (over_at world) (node_state n world))
              ⊎ HasBegun (number_of session) (node_view n (over_at world) (node_state n world)) (node_view n (over_at world) (node_state n (with_node id (nodes.begun session state) world)))
          by true e =
              inr (subst (λ m. HasBegun (number_of session) (node_view m (over_at world) (node_state m world)) (node_view m (over_at world) (node_state m (with_node id (nodes.begun session state) world)))) (sym ((same_text-tells n id).0 e))
              (subst (λ o. HasBegun (number_of session) (node_view id (over_at world) (node_state id world)) (node_view id (over_at world) o)) (sym (node_state-same id state (nodes.begun session state) world is))
              (subst (λ o. HasBegun (number_of session) (node_view id (over_at world) o) (node_view id (over_at world) (Some (nodes.begun session state)))) (sym is) begun)))
          by false e = inl (ap (node_view n (over_at world)) (node_state-other id n (nodes.begun session state) world e))

      held-at : (n : List ℕ) (k : PluginThing) → (node_view n (over_at world) (node_state n (with_node id (nodes.begun session state) world))).held k ≡ (node_view n (over_at world) (node_state n world)).held k
      held-at n k = ⊎_elim (λ same. ap (λ (v : PluginView). v.held k) same) (λ has. has.held k) (views n)

      spent-at : (n : List ℕ) (k : PluginThing) (number : Number) → IsTrue ((node_view n (over_at world) (node_state n world)).is_spent k number)
          → IsTrue ((node_view n (over_at world) (node_state n (with_node id (nodes.begun session state) world))).is_spent k number)
      spent-at n k number was = ⊎_elim (λ same. ap (λ (v : PluginView). v.is_spent k number) same ∙ was) (λ has. has.stays_spent k number was) (views n)

      kept-at : (n : List ℕ) (k : PluginThing) (x : Kept) → (node_view n (over_at world) (node_state n (with_node id (nodes.begun session state) world))).kept k ≡ Some x
          → (node_view n (over_at world) (node_state n world)).kept k ≡ Some x
      kept-at n k x now =
          ⊎_elim (λ same. sym (ap (λ (v : PluginView). v.kept k) same) ∙ now) (λ has. ⊎_elim (λ same. sym same ∙ now) (λ none. absurd (none-some x (sym none ∙ now))) (has.keeps k)) (views n)

      held : (thing : PluginThing) → (view_of (with_node id (nodes.begun session state) world)).held thing ≡ (view_of world).held thing
      held (Exists name) = refl
      held (Attached i n) = refl
      held (Staged i n) = held-at n (Staged i n)
      held (Published i n target) = held-at n (Published i n target)

      spent : (thing : PluginThing) (number : Number) → IsTrue ((view_of world).is_spent thing number) → IsTrue ((view_of (with_node id (nodes.begun session state) world)).is_spent thing number)
      spent (Exists name) number was = was
      spent (Attached i n) number was = was
      spent (Staged i n) number was = spent-at n (Staged i n) number was
      spent (Published i n target) number was = spent-at n (Published i n target) number was

      kept : (thing : PluginThing) (x : Kept) → (view_of (with_node id (nodes.begun session state) world)).kept thing ≡ Some x → (view_of world).kept thing ≡ Some x
      kept (Exists name) x now = now
      kept (Attached i n) x now = now
      kept (Staged i n) x now = kept-at n (Staged i n) x now
      kept (Published i n target) x now = kept-at n (Published i n target) x now

  -- ---- either

  -- what is kept of a world is so once a plugin's session was raised
  pub raised-right : (party : Party) (session : ℕ) → IsRight (plugin_raised party session world)
  raised-right Controller session = by (nat_lt world.controller.session session) refl
    where
      by : (b : Bool) → nat_lt world.controller.session session ≡ b → IsRight (with_plugins world (cond b (controllers.begun session world.controller) world.controller) world.nodes)
      by true e = controller-raised session (ltb-true world.controller.session session e)
      by false e = right
  raised-right (Node id) session = at (node_state id world) refl
    where
      at : (o : Option NodeState) → node_state id world ≡ o → IsRight (node_raised id session world o)
      at None is = right
      at (Some state) is = by (nat_lt state.session session) refl
        where
          by : (b : Bool) → nat_lt state.session session ≡ b → IsRight (with_node id (cond b (nodes.begun session state) state) world)
          by true e = node-begins id state session is (ltb-true state.session session e)
          by false e = subst IsRight (sym (with_node-same world id state right.good.reached is)) right
