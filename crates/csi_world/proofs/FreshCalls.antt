-- A call with a new number is carried out by its plugin, which answers it by its table.
use Rattle.csi_world.proofs.Words.{◌≡◌, ℕ, ◌≤◌, List, [], ◌∷◌, ◌++◌, Bool, true, false, cond, Option, Some, None}
use Rattle.csi_world.proofs.Words.{option_map, refl, sym, ◌∙◌, ap, subst, ◌==◌, arith, Number, Call, Party, Controller}
use Rattle.csi_world.proofs.Words.{Node, Reply, kind_of, Config, Frame, IsBefore, call_frame, reply_frame, same_text}
use Rattle.csi_world.proofs.Words.{IsAmong, last_of, is_over, Fenced, in_session, Volume, ControllerState, is_row_for}
use Rattle.csi_world.proofs.Words.{row_for, NodeState, AnsweredVolume, volume_of, row_with_id, row_of_volume, Issued}
use Rattle.csi_world.proofs.Words.{frame_of, World, node_state, with_node, with_frame, answered_by_node}
use Rattle.csi_world.proofs.Words.{answered_by_plugin, called, called_at}
use Rattle.csi_world.proofs.Lemmas.{nat_tests, same_text-tells, among-find, among-filter}
use Rattle.csi_fence.specs.Public.Fence.{IsFresh}
use Rattle.csi_fence.specs.Public.Lawful.{IsLetThrough}
use Rattle.csi_fence.proofs.LetThrough.{fresh-after, is_carried_out}
use Rattle.csi_controller.specs.Model.Table as controller_table
use Rattle.csi_controller.specs.Model.Fenced as controllers
use Rattle.csi_node.specs.Model.Table as node_table
use Rattle.csi_node.specs.Model.Fenced as nodes
use Rattle.csi_world.proofs.PluginsReached.{found-at, node_state-same, node_state-other}
use Rattle.csi_world.proofs.HeardNumbers.{ControllerHeard, NodeHeard, HaveHeard, up-before}

-- a number after the last one is of no earlier session
later-session : (last number : Number) → IsBefore last number → last.session ≤ number.session
later-session last number before = grind (arith, nat_tests)

-- so a plugin that heard of nothing later doesn't take it as over
not-over : (session : ℕ) (last number : Number) → session ≤ last.session → IsBefore last number → is_over session number ≡ false
not-over session last number heard before = let later = later-session last number before in grind (arith, nat_tests)

-- ---- the controller

-- the state in which a call of this number is judged
abbrev pub controller_now : Config → Number → ControllerState → ControllerState
controller_now config number state = in_session (controllers.controller_with config) number state

-- it has no other volumes, and the same holdings
controller-now-volumes : (config : Config) (number : Number) (state : ControllerState) (volume : Volume) → IsAmong volume (controller_now config number state).volumes → IsAmong volume state.volumes
controller-now-volumes config number state volume = grind (arith, among-filter)

pub controller-now-holdings : (config : Config) (number : Number) (state : ControllerState) → (controller_now config number state).holdings ≡ state.holdings
controller-now-holdings config number state = grind arith

-- the call is let through
controller-lets : (config : Config) (last number : Number) (state : ControllerState) (call : Call) → ControllerHeard last state → IsBefore last number → IsLetThrough (controllers.controller_with config) state number call
controller-lets config last number state call heard before =
    record { not_over = not-over state.session last number heard.session before; fresh = by (row_for call now) refl }
  where
    now : ControllerState
    now = controller_now config number state

    by : (o : Option Volume) → row_for call now ≡ o → IsFresh (last_of (controllers.kept_for call now)) number
    by o e = subst (λ (r : Option Volume). IsFresh (last_of (option_map (λ (v : Volume). v.kept) r)) number) (sym e) (at o e)
      where
        at : (o : Option Volume) → row_for call now ≡ o → IsFresh (last_of (option_map (λ (v : Volume). v.kept) o)) number
        at None e = refl
        at (Some volume) e =
            fresh-after volume.kept.number number
            (up-before last volume.kept.number number (heard.kept volume (controller-now-volumes config number state volume (among-find (is_row_for call) now.volumes volume e))) before)

-- and answered by the table
controller-answers : (config : Config) (last number : Number) (state : ControllerState) (call : Call) → ControllerHeard last state → IsBefore last number
    → (controllers.fenced config state (call_frame number Controller call)).reply ≡ Some (reply_frame number Controller (kind_of call) (controller_table.controller_row config (controller_now config number state) call).reply)
controller-answers config last number state call heard before =
    ap (λ (f : Fenced ControllerState). f.reply) (is_carried_out (controllers.controller_with config) state number call (controller-lets config last number state call heard before))

-- ---- nodes

-- the state in which a call of this number is judged
abbrev pub node_now : List ℕ → Number → NodeState → NodeState
node_now node number state = in_session (nodes.node_at node) number state

-- it has no other rows, and the same is staged and published
pub node-now-rows : (node : List ℕ) (number : Number) (state : NodeState) (row : AnsweredVolume) → IsAmong row (node_now node number state).rows → IsAmong row state.rows
node-now-rows node number state row = grind (arith, among-filter)

pub node-now-published : (node : List ℕ) (number : Number) (state : NodeState) → (node_now node number state).published ≡ state.published
node-now-published node number state = grind arith

-- the call is let through
node-lets : (node : List ℕ) (last number : Number) (state : NodeState) (call : Call) → NodeHeard last state → IsBefore last number → IsLetThrough (nodes.node_at node) state number call
node-lets node last number state call heard before =
    record { not_over = not-over state.session last number heard.session before; fresh = by (volume_of call) }
  where
    now : NodeState
    now = node_now node number state

    at : (id : ℕ) (o : Option AnsweredVolume) → row_with_id id now ≡ o → IsFresh (last_of (option_map (λ (r : AnsweredVolume). r.kept) o)) number
    at id None e = refl
    at id (Some row) e =
        fresh-after row.kept.number number
        (up-before last row.kept.number number (heard.kept row (node-now-rows node number state row (among-find (λ (r : AnsweredVolume). r.id == id) now.rows row e))) before)

    by : (o : Option ℕ) → IsFresh (last_of (option_map (λ (r : AnsweredVolume). r.kept) (row_of_volume o now))) number
    by None = refl
    by (Some id) = at id (row_with_id id now) refl

-- and answered by the table
node-answers : (node : List ℕ) (last number : Number) (state : NodeState) (call : Call) → NodeHeard last state → IsBefore last number
    → (nodes.fenced node state (call_frame number (Node node) call)).reply ≡ Some (reply_frame number (Node node) (kind_of call) (node_table.node_row (node_now node number state) call).reply)
node-answers node last number state call heard before =
    ap (λ (f : Fenced NodeState). f.reply) (is_carried_out (nodes.node_at node) state number call (node-lets node last number state call heard before))
    ∙ by (node_table.has_no_room now call)
  where
    now : NodeState
    now = node_now node number state

    frame : Frame
    frame = reply_frame number (Node node) (kind_of call) (node_table.node_row now call).reply

    by : (b : Bool) → (cond b (let f : Fenced NodeState = record { reply = Some frame; state = now } in f) (let f : Fenced NodeState = record { reply = Some frame; state = nodes.keep (volume_of call) (record { number = number; kind = kind_of call; reply = (node_table.node_row now call).reply }) (node_table.changed now (node_table.node_row now call).change) } in f)).reply ≡ Some frame
    by true = refl
    by false = refl

-- ---- in a world

-- the plugin is there
abbrev pub IsThere : World → Party → Type 0
IsThere world Controller = Unit {0}
IsThere world (Node id) = (state : NodeState) × (node_state id world ≡ Some state)

-- the reply is the one that the plugin's table gives to a call of this number
abbrev pub IsTabled : World → Number → Party → Call → Reply → Type 0
IsTabled world number Controller call reply = reply ≡ (controller_table.controller_row world.config (controller_now world.config number world.controller) call).reply
IsTabled world number (Node id) call reply = (state : NodeState) × (node_state id world ≡ Some state) × (reply ≡ (node_table.node_row (node_now id number state) call).reply)

-- a plugin answered a call: its reply is sent, and the orchestrator did nothing
pub record IsAnsweredBy (world next : World) (issued : Issued) : Type 0 where
  pub reply : Reply
  pub frames : next.frames ≡ world.frames ++ reply_frame issued.number issued.party (kind_of issued.call) reply ∷ []
  pub history : next.history ≡ world.history
  pub stays : (id : List ℕ) → IsThere world (Node id) → IsThere next (Node id)
  pub tabled : IsTabled world issued.number issued.party issued.call reply

-- a call after all that was heard is answered so
pub call-answered : (world : World) (last : Number) (issued : Issued) → HaveHeard last world.controller world.nodes → IsBefore last issued.number → IsThere world issued.party
    → IsAnsweredBy world (called world (frame_of issued) issued.party).world issued
call-answered world last issued heard before there = by issued.party there
  where
    frame : Party → Frame
    frame party = call_frame issued.number party issued.call

    sent : (reply : Option Frame) (next : World) (one : Frame) → reply ≡ Some one → next.frames ≡ world.frames → (with_frame reply next).frames ≡ world.frames ++ one ∷ []
    sent reply next one e same = ap (λ (r : Option Frame). (with_frame r next).frames) e ∙ ap (λ fs. fs ++ one ∷ []) same

    quiet : (reply : Option Frame) (next : World) → (with_frame reply next).history ≡ next.history
    quiet None next = refl
    quiet (Some one) next = refl

    still : (reply : Option Frame) (next : World) (id : List ℕ) → IsThere next (Node id) → IsThere (with_frame reply next) (Node id)
    still None next id at = at
    still (Some one) next id at = at

    by : (party : Party) → IsThere world party → IsAnsweredBy world (called world (frame party) party).world (record issued { party = party })
    by Controller there =
        let got = controllers.fenced world.config world.controller (frame Controller) in
        let next : World = record world { controller = got.state } in
        record {
          reply = (controller_table.controller_row world.config (controller_now world.config issued.number world.controller) issued.call).reply;
          frames = sent got.reply next _ (controller-answers world.config last issued.number world.controller issued.call heard.controller before) refl;
          history = quiet got.reply next;
          stays = λ id at. still got.reply next id at;
          tabled = refl;
        }
    by (Node id) there = at (node_state id world) refl
      where
        state : NodeState
        state = there.0

        own : NodeHeard last state
        own = let found = found-at id world state there.1 in subst (NodeHeard last) found.3 (heard.nodes found.0 found.1)

        got : Fenced NodeState
        got = nodes.fenced id state (frame (Node id))

        next : World
        next = with_node id got.state world

        stays : (other : List ℕ) → IsThere world (Node other) → (b : Bool) → same_text other id ≡ b → IsThere next (Node other)
        stays other at true e =
            let same : id ≡ other = sym ((same_text-tells other id).0 e) in
            (got.state, ap (λ n. node_state n next) (sym same) ∙ node_state-same id state got.state world there.1)
        stays other at false e = (at.0, node_state-other id other got.state world e ∙ at.1)

        at : (o : Option NodeState) → node_state id world ≡ o → IsAnsweredBy world (called_at world (frame (Node id)) o).world (record issued { party = Node id })
        at None e = absurd (clash (sym there.1 ∙ e))
          where
            clash : Some state ≡ None → ⊥
            clash h = cc
        at (Some other) e =
            let is : answered_by_plugin world (frame (Node id)) ≡ with_frame got.reply next = ap (λ o. answered_by_node id world (frame (Node id)) o) there.1 in
            subst (λ w. IsAnsweredBy world w (record issued { party = Node id })) (sym is)
            (record {
              reply = (node_table.node_row (node_now id issued.number state) issued.call).reply;
              frames = sent got.reply next _ (node-answers id last issued.number state issued.call own before) refl;
              history = quiet got.reply next;
              stays = λ other at. still got.reply next other (stays other at (same_text other id) refl);
              tabled = (state, there.1, refl);
            })
