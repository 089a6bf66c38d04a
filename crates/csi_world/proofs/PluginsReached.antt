-- All is so of the controller's state of a world that each frame and each session keeps, its nodes are in states that frames lead to, and nodes of one
-- id are alike.
use Rattle.csi_world.proofs.Words.{◌≡◌, ◌⊎◌, ℕ, List, [], ◌∷◌, ◌++◌, map, Bool, true, false, cond, not, Option, Some}
use Rattle.csi_world.proofs.Words.{None, option_map, find, refl, sym, ◌∙◌, ap, inl, inr, AllByRecursion, ◌<◌}
use Rattle.csi_world.proofs.Words.{IsExclusiveState, Config, Frame, IsAmong, same_text, ControllerState, NodeState}
use Rattle.csi_world.proofs.Words.{joined_node, after_frames, History, NodeAt, World, new_node, node_id, empty_world}
use Rattle.csi_world.proofs.Words.{node_state, with_state, with_node, with_new_node, without_node, with_frame}
use Rattle.csi_world.proofs.Words.{answered_by_plugin, arith}
use Rattle.csi_world.proofs.Lemmas.{false≢true, none-some, same_Some, each_of, among-either, among-find, among-kept}
use Rattle.csi_world.proofs.Lemmas.{among-map, some-found, each-append_one, each-filter, none-from_map, some-from_map}
use Rattle.csi_world.proofs.Lemmas.{find-filter, find-filter_not, find-map, find-passes, map-same, same_text-tells}
use Rattle.csi_world.proofs.Lemmas.{find-behind, and_parts, eqb-true, lt-ltb, IsOrderly}
use Rattle.csi_controller.specs.Model.Fenced as controller
use Rattle.csi_controller.specs.Public.View as controllers
use Rattle.csi_controller.proofs.OrderlyStates.{named_by_id, with_id_by_name, is_named, live_with_id, begun_orderly, orderly_kept}
use Rattle.csi_controller.proofs.RememberedStates.{AreRecent, begun_recent}
use Rattle.csi_controller.proofs.SafeStates.{begun_keeps, exclusive_kept, empty_exclusive}
use Rattle.csi_fence.proofs.FramesKeep.{frame_keeps}
use Rattle.csi_node.specs.Model.Fenced as node
use Rattle.csi_world.proofs.Lifetimes.{find-in_first}
use Rattle.csi_world.proofs.RecentStates.{recent-kept}

-- what is so of a controller's state from the first one on, whatever frames come, and whichever sessions begin
pub record IsRegular (state : ControllerState) : Type 0 where
  pub orderly : IsOrderly state
  pub exclusive : IsExclusiveState state
  pub recent : AreRecent state

-- a node's state is one to which frames lead, whichever session it joined with
abbrev pub IsNodeOfFrames : NodeAt → Type 0
IsNodeOfFrames at = (session : ℕ) × (frames : List Frame) × (at.state ≡ after_frames at.id (joined_node session) frames)

-- the plugins are in such states, and each node is as the one that is found by its id
pub record IsReached (world : World) : Type 0 where
  pub controller : IsRegular world.controller
  pub nodes : AllByRecursion IsNodeOfFrames world.nodes
  pub alike : (at : NodeAt) → IsAmong at world.nodes → node_state at.id world ≡ Some at.state

-- one frame more, at a node
pub node-more : (id : List ℕ) (state : NodeState) (frames : List Frame) (frame : Frame) → after_frames id state (frames ++ frame ∷ []) ≡ (node.fenced id (after_frames id state frames) frame).state
node-more id state [] frame = refl
node-more id state (f ∷ fs) frame = node-more id (node.fenced id state f).state fs frame

-- so it is after each frame
pub controller-next : (config : Config) (state : ControllerState) (frame : Frame) → IsRegular state → IsRegular (controller.fenced config state frame).state
controller-next config state frame is =
    record {
      orderly = frame_keeps (controller.controller_with config) IsOrderly (orderly_kept config) state frame is.orderly;
      exclusive = frame_keeps (controller.controller_with config) IsExclusiveState (exclusive_kept config) state frame is.exclusive;
      recent = frame_keeps (controller.controller_with config) AreRecent (recent-kept config) state frame is.recent;
    }

-- and once a later session has begun
pub controller-begun : (session : ℕ) (state : ControllerState) → state.session < session → IsRegular state → IsRegular (controller.begun session state)
controller-begun session state later is =
    record { orderly = begun_orderly session state is.orderly; exclusive = begun_keeps session state is.exclusive; recent = begun_recent session state (lt-ltb state.session session later) is.recent }

-- names and ids belong together there
pub regular-named : (state : ControllerState) → IsRegular state → controllers.AreNamed state
regular-named state is = grind (arith, named_by_id, with_id_by_name, is_named, among-find, and_parts, find-passes, live_with_id, eqb-true)

-- the node that is found
pub found-at : (id : List ℕ) (world : World) (state : NodeState) → node_state id world ≡ Some state → (at : NodeAt) × IsAmong at world.nodes × (at.id ≡ id) × (at.state ≡ state)
found-at id world state h =
    let p : NodeAt → Bool = λ n. same_text n.id id in
    let found = some-from_map (λ (n : NodeAt). n.state) (find p world.nodes) state h in
    (found.0, among-find p world.nodes found.0 found.1, (same_text-tells (found.0).id id).0 (find-passes p world.nodes found.0 found.1), found.2)

-- the node of an id is in a state that frames lead to
pub node-of-frames : (world : World) (id : List ℕ) (state : NodeState) → IsReached world → node_state id world ≡ Some state
    → (session : ℕ) × (frames : List Frame) × (state ≡ after_frames id (joined_node session) frames)
node-of-frames world id state reached h =
    let found = found-at id world state h in
    let of = each_of IsNodeOfFrames world.nodes found.0 reached.nodes found.1 in
    (of.0, of.1, sym found.3 ∙ of.2 ∙ ap (λ i. after_frames i (joined_node of.0) of.1) found.2)

-- a node after another state of one node
with_state-id : (id other : List ℕ) (state : NodeState) (at : NodeAt) → same_text (with_state id state at).id other ≡ same_text at.id other
with_state-id id other state at = grind arith

-- another state of one node leaves what a node of another id knows
state-other : (id other : List ℕ) (state : NodeState) (o : Option NodeAt) → same_text other id ≡ false → ((at : NodeAt) → o ≡ Some at → at.id ≡ other)
    → option_map (λ (n : NodeAt). n.state) (option_map (with_state id state) o) ≡ option_map (λ (n : NodeAt). n.state) o
state-other id other state o differs is = grind arith

-- so it is in a world
pub node_state-other : (id other : List ℕ) (state : NodeState) (world : World) → same_text other id ≡ false → node_state other (with_node id state world) ≡ node_state other world
node_state-other id other state world differs =
    ap (option_map (λ (n : NodeAt). n.state)) (find-map (λ (n : NodeAt). same_text n.id other) (with_state id state) world.nodes (with_state-id id other state))
    ∙ state-other id other state (find (λ (n : NodeAt). same_text n.id other) world.nodes) differs
    (λ at e. (same_text-tells at.id other).0 (find-passes (λ (n : NodeAt). same_text n.id other) world.nodes at e))

-- the node of the id knows what was put there
state-same : (id : List ℕ) (old state : NodeState) (o : Option NodeAt) → option_map (λ (n : NodeAt). n.state) o ≡ Some old → ((at : NodeAt) → o ≡ Some at → same_text at.id id ≡ true)
    → option_map (λ (n : NodeAt). n.state) (option_map (with_state id state) o) ≡ Some state
state-same id old state None h is = absurd (none-some old h)
state-same id old state (Some at) h is = ap (λ b. Some (cond b (let n : NodeAt = record at { state = state } in n) at).state) (is at refl)

-- so it is in a world
pub node_state-same : (id : List ℕ) (old state : NodeState) (world : World) → node_state id world ≡ Some old → node_state id (with_node id state world) ≡ Some state
node_state-same id old state world h =
    ap (option_map (λ (n : NodeAt). n.state)) (find-map (λ (n : NodeAt). same_text n.id id) (with_state id state) world.nodes (with_state-id id id state))
    ∙ state-same id old state (find (λ (n : NodeAt). same_text n.id id) world.nodes) h (λ at e. find-passes (λ (n : NodeAt). same_text n.id id) world.nodes at e)

-- a node's answer to a frame
with_states : (id : List ℕ) (state : NodeState) (ns : List NodeAt) → ((session : ℕ) × (frames : List Frame) × (state ≡ after_frames id (joined_node session) frames)) → AllByRecursion IsNodeOfFrames ns → AllByRecursion IsNodeOfFrames (map (with_state id state) ns)
with_states id state [] of all = tt
with_states id state (n ∷ ns) of all = (by (same_text n.id id) refl, with_states id state ns of all.1)
  where
    by : (b : Bool) → same_text n.id id ≡ b → IsNodeOfFrames (cond b (record n { state = state }) n)
    by true e = (of.0, of.1, of.2 ∙ ap (λ i. after_frames i (joined_node of.0) of.1) (sym ((same_text-tells n.id id).0 e)))
    by false e = all.0

-- the plugins of a world are in such states after a node got a frame
pub node-next : (world : World) (id : List ℕ) (state : NodeState) (frame : Frame) → IsReached world → node_state id world ≡ Some state
    → IsReached (with_node id (node.fenced id state frame).state world)
node-next world id state frame reached h =
    let of = node-of-frames world id state reached h in
    let next : NodeState = (node.fenced id state frame).state in
    record {
      controller = reached.controller;
      nodes = with_states id next world.nodes (of.0, of.1 ++ frame ∷ [], ap (λ (s : NodeState). (node.fenced id s frame).state) of.2 ∙ sym (node-more id (joined_node of.0) of.1 frame)) reached.nodes;
      alike = λ at among. let from = among-map (with_state id next) world.nodes at among in alike next at from.0 from.1 from.2 (same_text (from.0).id id) refl;
    }
  where
    alike : (next : NodeState) (at old : NodeAt) → IsAmong old world.nodes → at ≡ with_state id next old → (b : Bool) → same_text old.id id ≡ b → node_state at.id (with_node id next world) ≡ Some at.state
    alike next at old among is true e =
        let now : at ≡ record old { state = next } = is ∙ ap (λ b. cond b (let n : NodeAt = record old { state = next } in n) old) e in
        let same : at.id ≡ id = ap (λ (n : NodeAt). n.id) now ∙ (same_text-tells old.id id).0 e in
        ap (λ i. node_state i (with_node id next world)) same ∙ node_state-same id state next world h ∙ ap Some (sym (ap (λ (n : NodeAt). n.state) now))
    alike next at old among is false e =
        let now : at ≡ old = is ∙ ap (λ b. cond b (let n : NodeAt = record old { state = next } in n) old) e in
        let differs : same_text at.id id ≡ false = ap (λ (n : NodeAt). same_text n.id id) now ∙ e in
        node_state-other id at.id next world differs ∙ ap (λ (n : NodeAt). node_state n.id world) now ∙ reached.alike old among ∙ ap Some (sym (ap (λ (n : NodeAt). n.state) now))

-- a node that stays as it is
pub with_node-same : (world : World) (id : List ℕ) (state : NodeState) → IsReached world → node_state id world ≡ Some state → with_node id state world ≡ world
with_node-same world id state reached h = grind (arith, map-same, same_Some, same_text-tells)

-- at first
new_nodes : (ids : List (List ℕ)) → AllByRecursion IsNodeOfFrames (map (new_node 0) ids)
new_nodes [] = tt
new_nodes (id ∷ ids) = ((0, [], refl), new_nodes ids)

-- a new node knows nothing
pub knows-nothing : (ids : List (List ℕ)) (at : NodeAt) → IsAmong at (map (new_node 0) ids) → at.state ≡ joined_node 0
knows-nothing ids at among = let from = among-map (new_node 0) ids at among in ap (λ (n : NodeAt). n.state) from.2

-- and so does the first of its id
new_alike : (ids : List (List ℕ)) (at : NodeAt) → IsAmong at (map (new_node 0) ids) → option_map (λ (n : NodeAt). n.state) (find (λ (n : NodeAt). same_text n.id at.id) (map (new_node 0) ids)) ≡ Some at.state
new_alike ids at among =
    let p : NodeAt → Bool = λ n. same_text n.id at.id in
    let first = some-found p (map (new_node 0) ids) at among ((same_text-tells at.id at.id).1 refl) in
    ap (option_map (λ (n : NodeAt). n.state)) first.1 ∙ ap Some (knows-nothing ids first.0 (among-find p (map (new_node 0) ids) first.0 first.1) ∙ sym (knows-nothing ids at among))

-- so it is in the empty world
pub empty-reached : (config : Config) → IsReached (empty_world config)
empty-reached config =
    record { controller = record { orderly = λ v among. absurd among; exclusive = empty_exclusive; recent = λ v among. absurd among }; nodes = new_nodes (map node_id config.nodes); alike = λ at among. new_alike (map node_id config.nodes) at among }

-- what an orchestrator does changes no plugin, nor does a configuration
pub still-reached : (world : World) (config : Config) (frames : List Frame) (history : History) → IsReached world → IsReached (record world { config = config; frames = frames; history = history })
still-reached world config frames history reached = record { controller = reached.controller; nodes = reached.nodes; alike = reached.alike }

-- ---- nodes that join

-- what the nodes that were there know
pub joined-other : (session : ℕ) (id other : List ℕ) (world : World) (state : NodeState) → node_state other world ≡ Some state → node_state other (with_new_node session id world) ≡ Some state
joined-other session id other world state h =
    let p : NodeAt → Bool = λ n. same_text n.id other in
    let found = some-from_map (λ (n : NodeAt). n.state) (find p world.nodes) state h in
    ap (option_map (λ (n : NodeAt). n.state)) (find-in_first p world.nodes (new_node session id ∷ []) found.0 found.1) ∙ ap Some found.2

-- where a node isn't there, and doesn't join, it isn't there then
pub joined-none : (session : ℕ) (id other : List ℕ) (world : World) → node_state other world ≡ None → node_state other (with_new_node session id world) ≡ cond (same_text id other) (Some (joined_node session)) None
joined-none session id other world none = grind (arith, find-behind, none-from_map)

-- the node that joins has done nothing
pub joined-same : (session : ℕ) (id : List ℕ) (world : World) → node_state id world ≡ None → node_state id (with_new_node session id world) ≡ Some (joined_node session)
joined-same session id world none = joined-none session id id world none ∙ ap (λ b. cond b (Some (joined_node session)) None) ((same_text-tells id id).1 refl)

-- the plugins are in such states then
pub joined-reached : (session : ℕ) (id : List ℕ) (world : World) → node_state id world ≡ None → IsReached world → IsReached (with_new_node session id world)
joined-reached session id world none reached =
    record {
      controller = reached.controller;
      nodes = each-append_one IsNodeOfFrames world.nodes (new_node session id) reached.nodes (session, [], refl);
      alike = λ at among. by at (among-either world.nodes (new_node session id) at among);
    }
  where
    by : (at : NodeAt) → IsAmong at world.nodes ⊎ (at ≡ new_node session id) → node_state at.id (with_new_node session id world) ≡ Some at.state
    by at (inl there) = joined-other session id at.id world at.state (reached.alike at there)
    by at (inr e) = ap (λ (n : NodeAt). node_state n.id (with_new_node session id world)) e ∙ joined-same session id world none ∙ ap (λ (n : NodeAt). Some n.state) (sym e)

-- ---- nodes that are lost

-- what the other nodes know
pub lost-other : (id other : List ℕ) (world : World) → same_text other id ≡ false → node_state other (without_node id world) ≡ node_state other world
lost-other id other world differs =
    ap (option_map (λ (n : NodeAt). n.state))
    (find-filter (λ (n : NodeAt). same_text n.id other) (λ (n : NodeAt). not (same_text n.id id)) world.nodes
    (λ n is. ap (λ i. not (same_text i id)) ((same_text-tells n.id other).0 is) ∙ ap not differs))

-- the lost one isn't there
pub lost-same : (id : List ℕ) (world : World) → node_state id (without_node id world) ≡ None
lost-same id world = ap (option_map (λ (n : NodeAt). n.state)) (find-filter_not (λ (n : NodeAt). same_text n.id id) world.nodes)

-- the plugins are in such states then
pub lost-reached : (id : List ℕ) (world : World) → IsReached world → IsReached (without_node id world)
lost-reached id world reached = grind (arith, each-filter, among-kept, lost-other, false≢true)

-- what a plugin does is none of the orchestrator's
with_frame-history : (reply : Option Frame) (world : World) → (with_frame reply world).history ≡ world.history
with_frame-history None world = refl
with_frame-history (Some frame) world = refl

-- a plugin's answer leaves the orchestrator's history
pub answered-history : (world : World) (frame : Frame) → (answered_by_plugin world frame).history ≡ world.history
answered-history world frame = grind (arith, with_frame-history)
