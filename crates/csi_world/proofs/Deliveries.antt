-- A world after a plugin got a frame that was sent.
use Rattle.csi_world.proofs.Words.{◌≡◌, ℕ, ◌<◌, ◌≤◌, List, Bool, true, false, cond, Option, Some, None, option_map}
use Rattle.csi_world.proofs.Words.{refl, sym, ◌∙◌, ap, subst, inl, ⊎_elim, arith, nat_lt, Number, Capability, Call}
use Rattle.csi_world.proofs.Words.{Kind, Party, Controller, Node, Body, Reply, CallBecomes, IsClosed, IsDelivered}
use Rattle.csi_world.proofs.Words.{Frame, PluginThing, Exists, HasId, asked, IsAmong, kind_of, call_frame, reply_frame}
use Rattle.csi_world.proofs.Words.{stale_reply, same_party, Volume, ControllerState, volume_with_id, Fenced}
use Rattle.csi_world.proofs.Words.{answered_only, unanswered, NodeState, NodeSafetyLaw, Issued}
use Rattle.csi_world.proofs.Words.{issued_in, NodeAt, World, node_state, with_node, with_frame, answered_by_node}
use Rattle.csi_world.proofs.Words.{answered_by_plugin}
use Rattle.csi_world.proofs.Lemmas.{false≢true, ltb-true, ltb-false, none-some, same_Some, among-find}
use Rattle.csi_types.specs.declared.call.Call.TheVariants as calls
use Rattle.csi_types.specs.declared.frame.Body.TheVariants as bodies
use Rattle.csi_controller.specs.Model.Fenced as controller
use Rattle.csi_controller.specs.Public.View as controllers
use Rattle.csi_controller.proofs.DeliveryLaw.{delivered as delivered-to}
use Rattle.csi_controller.proofs.NamesLaw.{keeps_names}
use Rattle.csi_node.specs.Model.Fenced as node
use Rattle.csi_node.specs.Public.View as nodes
use Rattle.csi_world.proofs.WorldView.{party_of, node_view, over_at, plugin_view, view_of, ChangesOnly, closed-all}
use Rattle.csi_world.proofs.GivenIds.{GivenId, HasNow, HasOld, HasName, AreOf, live-now, id-of_found, AreGivenNext, given-next}
use Rattle.csi_world.proofs.CallThings.{IsOfThing, plugin_thing_at, is_of, of_thing}
use Rattle.csi_world.proofs.Lifetimes.{latest, calls_since, since-sent}
use Rattle.csi_world.proofs.NamedCalls.{own, for-weaker}
use Rattle.csi_world.proofs.SeenCalls.{IsAnsweredBy}
use Rattle.csi_world.proofs.HeardReplies.{sent-more}
use Rattle.csi_world.proofs.RepliesTold.{answer_to, delivery_of, ok-either, truth-answered, ok-low, truth-low}
use Rattle.csi_world.proofs.StagedAttached.{stands-answered}
use Rattle.csi_world.proofs.NotLive.{ended-answered, old-answered}
use Rattle.csi_world.proofs.Forgotten.{told_by, closed-told}
use Rattle.csi_world.proofs.KnownThings.{IsSoFar}
use Rattle.csi_world.proofs.RecordedRight.{IsWell}
use Rattle.csi_world.proofs.PluginsReached.{IsReached, regular-named, found-at, controller-next, node-next, node-of-frames, node_state-same, node_state-other, with_node-same}
use Rattle.csi_world.proofs.Floors.{HasFloor, under, floor-controller, floor-node, floor-with_state}
use Rattle.csi_world.proofs.JudgedCalls.{low-call}
use Rattle.csi_world.proofs.DeliveredCalls.{with_plugins, AreEffects, given-once, effects, given-live}

-- the laws of the plugins
pub record PluginLaws : Type 0 where
  pub controller : controllers.ControllerDeliveryLaw
  pub node : nodes.NodeDeliveryLaw
  pub publishing : NodeSafetyLaw

-- in every world what came before a spent number is spent
pub all-closed : PluginLaws → (world : World) → IsClosed (view_of world)
all-closed laws world = closed-all (λ w. laws.controller.closed w.controller) laws.node.closed world

-- a name has the id of the volume that was made
made-id : (controller : ControllerState) (given : List GivenId) (name : List ℕ) (id : ℕ) → AreOf controller given → controllers.held_in controller (Exists name) ≡ Some (HasId id) → HasNow given name id
made-id controller given name id of h = grind (arith, HasNow, none-some, live-now)

-- where CreateVolume was carried out and answered OK, the name has the id that the reply has
made-now : (new : World) (given : List GivenId) (call : Issued) (plugin_thing : PluginThing) (reply : Reply) (id : ℕ) (create : List ℕ) (required limit : ℕ) (capabilities : List Capability) → plugin_thing_at call.name call.party call.call ≡ Some plugin_thing
    → AreOf new.controller given → (view_of new).held plugin_thing ≡ asked call.call reply → call.call ≡ calls.CreateVolume create required limit capabilities
    → reply.id ≡ Some id → HasNow given call.name id
made-now new given call plugin_thing reply id create required limit capabilities of_plugin_thing of done is has_id =
    let exists : plugin_thing ≡ Exists call.name = same_Some plugin_thing (Exists call.name) (sym of_plugin_thing ∙ ap (plugin_thing_at call.name call.party) is) in
    let held : (plugin_view new (party_of plugin_thing)).held plugin_thing ≡ Some (HasId id) = done ∙ ap (λ c. asked c reply) is ∙ ap (option_map HasId) has_id in
    made-id new.controller given call.name id of (subst (λ k. (plugin_view new (party_of k)).held k ≡ Some (HasId id)) exists held)

-- what is kept of every world, by the ids that were given
pub record IsGood (world : World) : Type 0 where
  pub reached : IsReached world
  pub given : List GivenId
  pub well : IsWell world given
  pub floor : HasFloor (well.so_far).floor world

-- a sent call that came to its plugin, and what the plugins know then
module _ (laws : PluginLaws) (world : World) (controller : ControllerState) (nodes : List NodeAt) (call : Issued) where
  -- the world after the delivery
  abbrev next : World
  next = with_plugins world controller nodes

  -- all that is so of a world stays so, where the plugin goes on as its laws say, and the others are as they were
  good-delivered : (good : IsGood world) → HasFloor (good.well.so_far).floor next → IsAmong call (issued_in world.history.items) → IsReached next → controllers.KeepsNames world.controller controller → controllers.AreNamed controller
      → ChangesOnly call.party world next → (thing : Option PluginThing) → IsAnsweredBy world.controller controller call.party call.call thing → (answer : Option Frame)
      → IsDelivered call.party call.number call.call thing (plugin_view world call.party) (plugin_view next call.party) answer → IsGood (with_frame answer next)
  good-delivered good floor among reached keeps names only thing by answer delivered =
      subst (λ (f : Option Frame). IsGood (with_frame f next)) (sym delivered.is_answer)
      (record {
        reached = record { controller = reached.controller; nodes = reached.nodes; alike = reached.alike };
        given = more;
        floor = record { controller = floor.controller; nodes = floor.nodes; last = floor.last };
        well = record {
          so_far = record {
            floor = so_far.floor;
            truth = truth-answered issued world.frames (told_by given world) (told_by more next) call plugin_thing kind reply so_far.floor here (latest world.history.items)
                (λ is. among-find (is_of plugin_thing) (calls_since plugin_thing world.history.items) call is) so_far.truth so_far.closed made.told made.met;
            closed = closed-told more next (all-closed laws next);
            named = record {
              own_now = λ other there. for-weaker (HasNow given) (HasNow more) other.name (λ id has. following.1.wider _ has) other.party other.call (so_far.named.own_now other there);
              own_old = λ other there. for-weaker (HasOld given) (HasOld more) other.name (λ id had. following.1.wider _ had) other.party other.call (so_far.named.own_old other there);
              made = λ other r id create required limit capabilities there is ok has_id.
                  ⊎_elim (λ was. following.1.wider _ (so_far.named.made other r id create required limit capabilities there is was has_id))
                  (λ now. subst (λ (x : Issued). HasNow more x.name id) (sym now.0)
                  (made-now next more call plugin_thing reply id create required limit capabilities its.by_name following.1.of
                  (now.2 (created now.0 create required limit capabilities is there)) (ap (λ (x : Issued). x.call) (sym now.0) ∙ is)
                  (ap (λ (x : Reply). x.id) (sym now.1) ∙ has_id)))
                  (ok-either issued world.frames (told_by given world) (told_by more next) call plugin_thing kind reply so_far.floor here (latest world.history.items) so_far.truth made.told made.met other r (since-sent (Exists other.name) world.history.items other there) ok);
            };
            are_given = given-once world controller nodes call given more plugin_thing kind reply well following.1 made.plain;
            heard = λ number status id there. sent-more issued issued world.frames (answer_to call kind reply) number status id (λ c also. also) (so_far.heard number status id there);
            stands = stands-answered world.history.items world.frames (told_by given world) (told_by more next) call plugin_thing kind reply made.told so_far.stands;
            timed = so_far.timed;
            undone = so_far.undone;
          };
          of_controller = following.1.of;
          creates = well.creates;
          ended = ended-answered world.history.items world.frames (view_of world) (view_of next) call plugin_thing kind reply made.plain given more (all-closed laws next) well.creates made.changes well.ended
              (given-live world controller nodes call given more following.1);
          old_spent = old-answered world.history.items world.frames given world.controller controller (view_of world) (view_of next) so_far.named keeps well.of_controller made.plain.spent well.old_spent;
        };
      })
    where
      given : List GivenId
      given = good.given

      well : IsWell world given
      well = good.well

      so_far : IsSoFar world.history world.frames (told_by given world) given
      so_far = well.so_far

      issued : List Issued
      issued = issued_in world.history.items

      its : IsOfThing (HasName given) call.name call.party call.call
      its = of_thing (HasName given) call.name call.party call.call (own world.history.items world.frames given so_far.named call among)

      plugin_thing : PluginThing
      plugin_thing = its.plugin_thing

      -- the call was sent since its thing ended last
      here : Type 0
      here = IsAmong call (calls_since plugin_thing world.history.items)

      -- so was a CreateVolume, where it was sent since the name was forgotten
      created : {other : Issued} → other ≡ call → (create : List ℕ) (required limit : ℕ) (capabilities : List Capability) → other.call ≡ calls.CreateVolume create required limit capabilities
          → IsAmong other (calls_since (Exists other.name) world.history.items) → here
      created {other} same create required limit capabilities is there =
          let exists : plugin_thing ≡ Exists call.name = same_Some plugin_thing (Exists call.name) (sym its.by_name ∙ ap (plugin_thing_at call.name call.party) (ap (λ (x : Issued). x.call) (sym same) ∙ is)) in
          subst (λ k. IsAmong call (calls_since k world.history.items)) (sym exists) (subst (λ (x : Issued). IsAmong x (calls_since (Exists x.name) world.history.items)) same there)

      kind : Kind
      kind = delivered.kind

      reply : Reply
      reply = delivered.reply

      following : (more : List GivenId) × AreGivenNext world.controller controller given more
      following = given-next world.controller controller given keeps well.of_controller names

      more : List GivenId
      more = following.0

      made : AreEffects world controller nodes call given more plugin_thing kind reply
      made =
          effects world controller nodes call given more well keeps following.1 good.reached.controller.exclusive.attached_while_live reached.controller.exclusive.attached_while_live
          among plugin_thing its.by_name its.of_party (subst (λ p. ChangesOnly p world next) (sym its.of_party) only) kind reply thing by
          (subst (λ p. CallBecomes thing (delivery_of call kind reply) (plugin_view world p) (plugin_view next p)) (sym its.of_party) delivered.becomes)

-- a controller that gets no frame keeps its names
pub names-stay : (controller : ControllerState) → controllers.KeepsNames controller controller
names-stay controller =
    record { grows = omega arith; comes = λ id volume is. inl (there id volume is); stays = λ id volume is live. there id volume is; stays_ended = λ id given none. none }
  where
    there : (id : ℕ) (volume : Volume) → volume_with_id id controller ≡ Some volume → controllers.HasVolume controller volume
    there id volume is = record { there = volume; is_found = ap (λ n. volume_with_id n controller) (id-of_found id controller volume is) ∙ is; same_name = refl }

-- a plugin got a sent call
call-got : PluginLaws → (world : World) (name : List ℕ) (number : Number) (party : Party) (c : Call) (good : IsGood world) → (good.well.so_far).floor ≤ number.session
    → IsAmong {X = Issued} (record { name = name; number = number; party = party; call = c }) (issued_in world.history.items) → IsGood (answered_by_plugin world (call_frame number party c))
call-got laws world name number Controller c good above among =
    let call : Issued = record { name = name; number = number; party = Controller; call = c } in
    let frame : Frame = call_frame number Controller c in
    let after : Fenced ControllerState = controller.fenced world.config world.controller frame in
    let is = good.reached.controller in
    let of_kind = (of_thing (HasName good.given) name Controller c (own world.history.items world.frames good.given good.well.so_far.named call among)).of_kind in
    let delivered : controllers.IsDeliveredTo world.config world.controller number c = delivered-to world.config world.controller number c is.orderly is.exclusive is.recent of_kind in
    let next = controller-next world.config world.controller frame is in
    let floor : HasFloor (good.well.so_far).floor (with_plugins world after.state world.nodes) = record { controller = floor-controller world.config (good.well.so_far).floor world.controller number Controller (bodies.Call c) above good.floor.controller; nodes = good.floor.nodes; last = good.floor.last } in
    good-delivered laws world after.state world.nodes call good floor among (record { controller = next; nodes = good.reached.nodes; alike = good.reached.alike })
    (keeps_names world.config world.controller frame is.orderly) (regular-named after.state next) (others after.state) delivered.thing delivered.is_thing after.reply delivered.is_delivered
  where
    others : (s : ControllerState) → ChangesOnly Controller world (record world { controller = s })
    others s Controller e = absurd (false≢true (sym e))
    others s (Node id) e = refl
call-got laws world name number (Node id) c good above among = by (node_state id world) refl
  where
    others : (s : NodeState) → ChangesOnly (Node id) world (with_node id s world)
    others s Controller e = refl
    others s (Node there) e = ap (node_view there (over_at world)) (node_state-other id there s world e)

    by : (o : Option NodeState) → node_state id world ≡ o → IsGood (answered_by_node id world (call_frame number (Node id) c) o)
    by None is = good
    by (Some state) is =
        let call : Issued = record { name = name; number = number; party = Node id; call = c } in
        let after : Fenced NodeState = node.fenced id state (call_frame number (Node id) c) in
        let changed : World = with_node id after.state world in
        let frames = node-of-frames world id state good.reached is in
        let of_kind = (of_thing (HasName good.given) name (Node id) c (own world.history.items world.frames good.given good.well.so_far.named call among)).of_kind in
        let delivered = subst (λ (s : NodeState). nodes.IsDeliveredTo id s number c) (sym frames.2) (laws.node.delivered id frames.0 frames.1 number c of_kind) in
        let new_view = ap (node_view id (over_at world)) (sym (node_state-same id state after.state world is)) in
        let now = subst (λ v. IsDelivered (Node id) number c (nodes.thing_of id c) (nodes.view_of id state) v after.reply) new_view delivered in
        let found = found-at id world state is in
        let own = subst (λ (s : NodeState). (good.well.so_far).floor ≤ s.session) found.3 (good.floor.nodes found.0 found.1) in
        let floor : HasFloor (good.well.so_far).floor (with_plugins world world.controller changed.nodes) = record {
          controller = good.floor.controller;
          nodes = floor-with_state (good.well.so_far).floor id after.state world.nodes (floor-node id (good.well.so_far).floor state number (Node id) (bodies.Call c) above own) good.floor.nodes;
          last = good.floor.last;
        } in
        good-delivered laws world world.controller changed.nodes call good floor among (node-next world id state (call_frame number (Node id) c) good.reached is)
        (names-stay world.controller) good.well.of_controller.names (others after.state) (nodes.thing_of id c) (inl refl) after.reply
        (subst (λ v. IsDelivered (Node id) number c (nodes.thing_of id c) v (plugin_view changed (Node id)) after.reply) (ap (node_view id (over_at world)) (sym is)) now)

-- a call of a session below the floor is told to be stale
good-low : (world : World) (number : Number) (party : Party) (kind : Kind) (good : IsGood world) → number.session < (good.well.so_far).floor → IsGood (with_frame (Some (reply_frame number party kind stale_reply)) world)
good-low world number party kind good low =
    record {
      reached = record { controller = good.reached.controller; nodes = good.reached.nodes; alike = good.reached.alike };
      given = good.given;
      floor = record { controller = good.floor.controller; nodes = good.floor.nodes; last = good.floor.last };
      well = record {
        so_far = record {
          floor = so_far.floor;
          truth = truth-low so_far.floor issued (latest world.history.items) world.frames (told_by good.given world) number party kind so_far.truth low;
          closed = so_far.closed;
          named = record {
            own_now = so_far.named.own_now;
            own_old = so_far.named.own_old;
            made = λ other r id create required limit capabilities there is ok has_id.
                so_far.named.made other r id create required limit capabilities there is (ok-low number party kind world.frames other r ok) has_id;
          };
          are_given = so_far.are_given;
          heard = λ n status id there. sent-more issued issued world.frames (reply_frame number party kind stale_reply) n status id (λ c also. also) (so_far.heard n status id there);
          stands = so_far.stands;
          timed = so_far.timed;
          undone = so_far.undone;
        };
        of_controller = good.well.of_controller;
        creates = good.well.creates;
        ended = good.well.ended;
        old_spent = good.well.old_spent;
      };
    }
  where
    so_far : IsSoFar world.history world.frames (told_by good.given world) good.given
    so_far = good.well.so_far

    issued : List Issued
    issued = issued_in world.history.items

-- its plugin changes nothing
low-got : (world : World) (number : Number) (party : Party) (c : Call) (good : IsGood world) → number.session < (good.well.so_far).floor → IsGood (answered_by_plugin world (call_frame number party c))
low-got world number Controller c good low =
    let below = under number.session (good.well.so_far).floor world.controller.session low good.floor.controller in
    subst (λ (f : Fenced ControllerState). IsGood (with_frame f.reply (record world { controller = f.state }))) (sym (low-call (controller.controller_with world.config) world.controller number Controller c below))
    (good-low world number Controller (kind_of c) good low)
low-got world number (Node id) c good low = by (node_state id world) refl
  where
    by : (o : Option NodeState) → node_state id world ≡ o → IsGood (answered_by_node id world (call_frame number (Node id) c) o)
    by None is = good
    by (Some state) is =
        let found = found-at id world state is in
        let own = subst (λ (s : NodeState). (good.well.so_far).floor ≤ s.session) found.3 (good.floor.nodes found.0 found.1) in
        let below = under number.session (good.well.so_far).floor state.session low own in
        subst (λ (f : Fenced NodeState). IsGood (with_frame f.reply (with_node id f.state world))) (sym (low-call (node.node_at id) state number (Node id) c below)) (at (same_party (Node id) (Node id)))
      where
        at : (b : Bool) → IsGood (let f : Fenced NodeState = cond b (answered_only (node.node_at id) state number (kind_of c) stale_reply) (unanswered state) in with_frame f.reply (with_node id f.state world))
        at true = subst (λ (w : World). IsGood (with_frame (Some (reply_frame number (Node id) (kind_of c) stale_reply)) w)) (sym (with_node-same world id state good.reached is)) (good-low world number (Node id) (kind_of c) good low)
        at false = subst IsGood (sym (with_node-same world id state good.reached is)) good

-- a frame came that was sent; plugins answer no reply
got : PluginLaws → (world : World) (number : Number) (party : Party) (body : Body) → IsGood world
    → IsAmong {X = Frame} (record { number = number; party = party; body = body }) world.frames → IsGood (answered_by_plugin world (record { number = number; party = party; body = body }))
got laws world number party (bodies.Call c) good among = by (nat_lt number.session (good.well.so_far).floor) refl
  where
    frame : Frame
    frame = record { number = number; party = party; body = bodies.Call c }

    by : (b : Bool) → nat_lt number.session (good.well.so_far).floor ≡ b → IsGood (answered_by_plugin world frame)
    by true low = low-got world number party c good (ltb-true number.session (good.well.so_far).floor low)
    by false high =
        let above = ltb-false number.session (good.well.so_far).floor high in
        ⊎_elim
        (λ of. let call : Issued = of.call in
        subst (λ (f : Frame). IsGood (answered_by_plugin world f)) (sym of.is)
        (call-got laws world call.name call.number call.party call.call good (subst (λ (f : Frame). (good.well.so_far).floor ≤ f.number.session) of.is above) of.among))
        (λ low. absurd (omega (arith, low, above))) (good.well.so_far.truth.calls frame c among refl)
got laws world number Controller (bodies.Reply kind reply) good among = good
got laws world number (Node id) (bodies.Reply kind reply) good among = grind (arith, with_node-same)

-- what is kept of every world is so after a frame that was sent came
pub frame-got : PluginLaws → (world : World) (frame : Frame) → IsGood world → IsAmong frame world.frames → IsGood (answered_by_plugin world frame)
frame-got laws world frame good among = got laws world frame.number frame.party frame.body good among
