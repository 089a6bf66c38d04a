-- No plugin has heard of a session or of a number above the orchestrator's last one.
use Rattle.csi_world.proofs.Words.{◌≡◌, ◌⊎◌, ℕ, ◌≤◌, ◌<◌, List, [], ◌∷◌, map, not, Bool, true, false, cond, Option}
use Rattle.csi_world.proofs.Words.{Some, None, refl, sym, ◌∙◌, ap, subst, inl, inr, ⊎_elim, arith, Number, Call, Party}
use Rattle.csi_world.proofs.Words.{Controller, Node, Body, kind_of, Config, Frame, IsBefore, same_text, IsAmong, Kept}
use Rattle.csi_world.proofs.Words.{Fenced, fenced_parts, Volume, ControllerState, ended_volume, NodeState}
use Rattle.csi_world.proofs.Words.{AnsweredVolume, volume_of, last_number, NodeAt, World, empty_world, new_node}
use Rattle.csi_world.proofs.Words.{node_state, with_state, with_node, with_frame, answered_by, answered_by_node}
use Rattle.csi_world.proofs.Words.{answered_by_plugin, Choice, Sends, Starts, Answers, Joins, Loses, MayChoose}
use Rattle.csi_world.proofs.Words.{MayChooseAll, chosen, chosen_all}
use Rattle.csi_world.proofs.Lemmas.{nat_tests, among-either, among-filter, among-map, Carried, no_room, has_room}
use Rattle.csi_world.proofs.Lemmas.{was_carried, kept_of, keep-each, keep-session, changed-session, changed-rows}
use Rattle.csi_types.specs.declared.frame.Body.TheVariants as bodies
use Rattle.csi_controller.specs.Model.Table as controller_table
use Rattle.csi_controller.specs.Model.Fenced as controllers
use Rattle.csi_node.specs.Model.Table as node_table
use Rattle.csi_node.specs.Model.Fenced as nodes
use Rattle.csi_world.proofs.JudgedCalls.{call-so, changed-sessions}
use Rattle.csi_world.proofs.PluginsReached.{found-at, knows-nothing}
use Rattle.csi_world.proofs.Deliveries.{PluginLaws}
use Rattle.csi_world.proofs.RightWorlds.{IsRight, then-before}
use Rattle.csi_world.proofs.ChoicesRight.{chosen-right}

-- ---- numbers

-- the number is the last one, or comes before it
abbrev pub IsUpTo : Number → Number → Type 0
IsUpTo last number = (number ≡ last) ⊎ IsBefore number last

-- so it is still once the last one is later
pub up-later : (last later number : Number) → IsUpTo later last → IsUpTo last number → IsUpTo later number
up-later last later number grows h = grind (arith, then-before)

-- its session is no later
pub up-session : (last number : Number) → IsUpTo last number → number.session ≤ last.session
up-session last number (inl e) = subst (λ (n : Number). n.session ≤ last.session) (sym e) (omega arith)
up-session last number (inr before) = grind (arith, nat_tests)

-- a number after the last one is after each of them
pub up-before : (last number next : Number) → IsUpTo last number → IsBefore last next → IsBefore number next
up-before last number next (inl e) before = subst (λ n. IsBefore n next) (sym e) before
up-before last number next (inr earlier) before = then-before number last next earlier before

-- ---- controllers

-- a controller heard of no later session, and of no later number
pub record ControllerHeard (last : Number) (state : ControllerState) : Type 0 where
  pub session : state.session ≤ last.session
  pub kept : (volume : Volume) → IsAmong volume state.volumes → IsUpTo last volume.kept.number

-- a volume that ends keeps what it kept
ended-kept : (id : ℕ) (volume : Volume) → (ended_volume id volume).kept ≡ volume.kept
ended-kept id volume = grind arith

-- what is kept after a change
changed-kept : (last : Number) (state : ControllerState) (kept : Kept) (change : controller_table.Change) → IsUpTo last kept.number → ControllerHeard last state
    → (volume : Volume) → IsAmong volume (controller_table.changed state kept change).volumes → IsUpTo last volume.kept.number
changed-kept last state kept (controller_table.Makes name capacity capabilities) new heard volume among =
    ⊎_elim (λ there. heard.kept volume there) (λ e. subst (λ (v : Volume). IsUpTo last v.kept.number) (sym e) new) (among-either state.volumes _ volume among)
changed-kept last state kept (controller_table.Ends id) new heard volume among =
    let from = among-map (ended_volume id) state.volumes volume among in
    subst (λ (k : Kept). IsUpTo last k.number) (sym (ap (λ (v : Volume). v.kept) from.2 ∙ ended-kept id from.0)) (heard.kept from.0 from.1)
changed-kept last state kept change new heard volume among = heard.kept volume among

-- what a row keeps once a call is kept
kept-then : (last : Number) (call : Call) (kept : Kept) (volume : Volume) → IsUpTo last kept.number → IsUpTo last volume.kept.number → IsUpTo last (controllers.kept_in call kept volume).kept.number
kept-then last call kept volume new old = grind arith

-- a call of such a number that is carried out
controller-carries : (config : Config) (last number : Number) → IsUpTo last number → (state : ControllerState) (call : Call) → ControllerHeard last state
    → ControllerHeard last (controllers.carried_out state number call (controller_table.controller_row config state call)).state
controller-carries config last number up state call heard =
    let outcome : controller_table.Outcome = controller_table.controller_row config state call in
    let kept : Kept = record { number = number; kind = kind_of call; reply = outcome.reply } in
    record {
      session = subst (λ s. s ≤ last.session) (sym (changed-sessions state kept outcome.change)) heard.session;
      kept = λ volume among.
          let from = among-map (controllers.kept_in call kept) (controller_table.changed state kept outcome.change).volumes volume among in
          subst (λ (v : Volume). IsUpTo last v.kept.number) (sym from.2) (kept-then last call kept from.0 up (changed-kept last state kept outcome.change up heard from.0 from.1));
    }

-- ---- nodes

-- a node heard of no later session, and of no later number
pub record NodeHeard (last : Number) (state : NodeState) : Type 0 where
  pub session : state.session ≤ last.session
  pub kept : (row : AnsweredVolume) → IsAmong row state.rows → IsUpTo last row.kept.number

-- a call of such a number that is carried out
node-carries : (node : List ℕ) (last number : Number) → IsUpTo last number → (state : NodeState) (call : Call) → NodeHeard last state
    → NodeHeard last (nodes.carried_out node state number call (node_table.node_row state call)).state
node-carries node last number up state call heard = by _ (was_carried node state number call)
  where
    kept : Kept
    kept = kept_of state number call

    changed : NodeState
    changed = node_table.changed state (node_table.lifecycle_row state call).change

    by : (after : Fenced NodeState) → Carried node state number call after → NodeHeard last after.state
    by _ (no_room full) = heard
    by _ (has_room room) = record {
      session = subst (λ s. s ≤ last.session) (sym (keep-session (volume_of call) kept changed ∙ changed-session state (node_table.lifecycle_row state call).change)) heard.session;
      kept = λ row among.
          ⊎_elim
          (λ there. heard.kept row (subst (λ (rows : List AnsweredVolume). IsAmong row rows) (changed-rows state (node_table.lifecycle_row state call).change) there.0))
          (λ e. subst (λ (k : Kept). IsUpTo last k.number) (sym e) up)
          (keep-each (volume_of call) kept changed row among);
    }

-- ---- worlds

-- no plugin heard of a later session, or of a later number, than this one
pub record HaveHeard (last : Number) (state : ControllerState) (ns : List NodeAt) : Type 0 where
  pub controller : ControllerHeard last state
  pub nodes : (node : NodeAt) → IsAmong node ns → NodeHeard last node.state

-- than the orchestrator's last one
abbrev pub HasHeard : World → Type 0
HasHeard world = HaveHeard (last_number world.history) world.controller world.nodes

-- so it is still where the last number is later
pub heard-later : (last later : Number) (controller : ControllerState) (ns : List NodeAt) → IsUpTo later last → HaveHeard last controller ns → HaveHeard later controller ns
heard-later last later controller ns grows heard = grind (arith, up-later, up-session)

-- a controller got a frame that was sent
controller-gets : (config : Config) (last : Number) (state : ControllerState) (number : Number) (party : Party) (body : Body) → ((call : Call) → body ≡ bodies.Call call → IsUpTo last number) → ControllerHeard last state
    → ControllerHeard last (fenced_parts (controllers.controller_with config) state number party body).state
controller-gets config last state number party (bodies.Call call) up heard =
    let own = up call refl in
    call-so (controllers.controller_with config) (ControllerHeard last) number call
    (λ state heard. record { session = up-session last number own; kept = λ volume among. heard.kept volume (among-filter (λ (v : Volume). v.is_live) state.volumes volume among) })
    (λ state heard. controller-carries config last number own state call heard) state party heard
controller-gets config last state number party (bodies.Reply kind reply) up heard = heard

-- so did a node
node-gets : (node : List ℕ) (last : Number) (state : NodeState) (number : Number) (party : Party) (body : Body) → ((call : Call) → body ≡ bodies.Call call → IsUpTo last number) → NodeHeard last state
    → NodeHeard last (fenced_parts (nodes.node_at node) state number party body).state
node-gets node last state number party (bodies.Call call) up heard =
    let own = up call refl in
    call-so (nodes.node_at node) (NodeHeard last) number call
    (λ state heard. record { session = up-session last number own; kept = λ row among. heard.kept row (among-filter _ state.rows row among) })
    (λ state heard. node-carries node last number own state call heard) state party heard
node-gets node last state number party (bodies.Reply kind reply) up heard = heard

-- a plugin got a frame that was sent
answered-heard : (world : World) (frame : Frame) → ((call : Call) → frame.body ≡ bodies.Call call → IsUpTo (last_number world.history) frame.number) → HasHeard world → HasHeard (answered_by_plugin world frame)
answered-heard world frame up heard = by frame.party
  where
    last : Number
    last = last_number world.history

    more : (reply : Option Frame) (next : World) → HasHeard next → HasHeard (with_frame reply next)
    more None next so = so
    more (Some one) next so = so

    with_one : (id : List ℕ) (state : NodeState) → NodeHeard last state → (at : NodeAt) → IsAmong at (map (with_state id state) world.nodes) → NodeHeard last at.state
    with_one id state own at among =
        let from = among-map (with_state id state) world.nodes at among in
        subst (λ (n : NodeAt). NodeHeard last n.state) (sym from.2) (one from.0 (heard.nodes from.0 from.1) (same_text (from.0).id id))
      where
        one : (old : NodeAt) → NodeHeard last old.state → (b : Bool) → NodeHeard last (cond b (let n : NodeAt = record old { state = state } in n) old).state
        one old so true = own
        one old so false = so

    at_node : (id : List ℕ) (o : Option NodeState) → node_state id world ≡ o → HasHeard (answered_by_node id world frame o)
    at_node id None e = heard
    at_node id (Some state) e =
        let found = found-at id world state e in
        let own : NodeHeard last state = subst (NodeHeard last) found.3 (heard.nodes found.0 found.1) in
        let next : NodeState = (nodes.fenced id state frame).state in
        more (nodes.fenced id state frame).reply (with_node id next world)
        (record { controller = heard.controller; nodes = with_one id next (node-gets id last state frame.number frame.party frame.body up own) })

    by : (party : Party) → HasHeard (answered_by world frame party)
    by Controller =
        more (controllers.fenced world.config world.controller frame).reply (record world { controller = (controllers.fenced world.config world.controller frame).state })
        (record { controller = controller-gets world.config last world.controller frame.number frame.party frame.body up heard.controller; nodes = heard.nodes })
    by (Node id) = at_node id (node_state id world) refl

-- a call that was sent has no later number
pub sent-up : (world : World) → IsRight world → (frame : Frame) → IsAmong frame world.frames → (call : Call) → frame.body ≡ bodies.Call call → IsUpTo (last_number world.history) frame.number
sent-up world right frame among call is =
    ⊎_elim (λ of. subst (λ (f : Frame). IsUpTo (last_number world.history) f.number) (sym of.is) (right.last of.call of.among))
    (λ low. inr (earlier frame.number (last_number world.history) (right.good.well.so_far).floor low right.good.floor.last)) (right.good.well.so_far.truth.calls frame call among is)
  where
    earlier : (a b : Number) (floor : ℕ) → a.session < floor → floor ≤ b.session → IsBefore a b
    earlier a b floor low above = let less : a.session < b.session = omega (arith, low, above) in grind (arith, nat_tests)

-- where a session starts, its last number is later
started-up : (last : Number) (session : ℕ) → last.session < session → IsUpTo (record { session = session; call = 0 }) last
started-up last session less = inr (grind (arith, nat_tests))

-- it stays so by each choice that may be made
chosen-heard : (world : World) (choice : Choice) → IsRight world → MayChoose world choice → HasHeard world → HasHeard (chosen world choice)
chosen-heard world (Sends issued) right may heard = heard-later (last_number world.history) issued.number world.controller world.nodes (inr may.numbered.later) heard
chosen-heard world (Starts session ns) right may heard = heard-later (last_number world.history) (record { session = session; call = 0 }) world.controller world.nodes (started-up (last_number world.history) session may) heard
chosen-heard world (Answers frame) right may heard = answered-heard world frame (sent-up world right frame may) heard
chosen-heard world (Joins node) right may heard =
    record {
      controller = heard.controller;
      nodes = λ at among.
          ⊎_elim (λ there. heard.nodes at there)
          (λ e. subst (λ (n : NodeAt). NodeHeard (last_number world.history) n.state) (sym e) (record { session = omega arith; kept = λ row here. absurd here }))
          (among-either world.nodes (new_node (last_number world.history).session node) at among);
    }
chosen-heard world (Loses node session ns) right may heard =
    let later = heard-later (last_number world.history) (record { session = session; call = 0 }) world.controller world.nodes (started-up (last_number world.history) session may) heard in
    record { controller = later.controller; nodes = λ at among. later.nodes at (among-filter (λ (n : NodeAt). not (same_text n.id node)) world.nodes at among) }
chosen-heard world other right may heard = heard

-- and by many
pub all-heard : PluginLaws → (world : World) (choices : List Choice) → IsRight world → MayChooseAll world choices → HasHeard world → HasHeard (chosen_all world choices)
all-heard laws world [] right may heard = heard
all-heard laws world (choice ∷ choices) right may heard =
    all-heard laws (chosen world choice) choices (chosen-right laws world choice right may.0) may.1 (chosen-heard world choice right may.0 heard)

-- in the empty world no plugin heard of anything
pub empty-heard : (config : Config) → HasHeard (empty_world config)
empty-heard config = grind (arith, knows-nothing)
