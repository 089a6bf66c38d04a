-- Plugins whose sessions were raised: a call that does nothing but begin the session would do the same.
use Rattle.csi_world.proofs.Words.{◌≡◌, ℕ, ◌<◌, ◌≤◌, List, [], ◌∷◌, ◌++◌, cond, None, option_map, find, refl, sym, ◌∙◌}
use Rattle.csi_world.proofs.Words.{ap, ◌==◌, arith, Controller, Node, Number, Unimplemented, kind_of, Config, Frame}
use Rattle.csi_world.proofs.Words.{plain_reply, stale_reply, call_frame, Kept, answered_only, in_session, fenced_call}
use Rattle.csi_world.proofs.Words.{Volume, ControllerState, volume_with_id, NodeState, joined_node, after_frames}
use Rattle.csi_world.proofs.Lemmas.{lt-ltb, le-ltb, map-same, none_passes, none-where, find-none_in_filter}
use Rattle.csi_world.proofs.Lemmas.{same_text-tells, Carried, no_room, has_room, was_carried}
use Rattle.csi_types.specs.declared.call.Call.TheVariants as calls
use Rattle.csi_controller.specs.Public.View as controllers
use Rattle.csi_controller.specs.Model.Fenced as controller
use Rattle.csi_controller.specs.Public.Raised as controller_raised
use Rattle.csi_node.specs.Model.Fenced as node
use Rattle.csi_node.specs.Public.Raised as node_raised
use Rattle.csi_world.proofs.PluginsReached.{node-more}

-- the number of the call that begins it
abbrev pub number_of : ℕ → Number
number_of session = record { session = session; call = 0 }

-- an earlier session isn't over
not-later : (a b : ℕ) → a < b → a ≤ b
not-later a b less = omega (arith, less)

-- ---- a controller

-- it has begun the session
pub raised-controller : (session : ℕ) (state : ControllerState) → state.session < session → controller_raised.raised session state ≡ controller.begun session state
raised-controller session state later = ap (λ b. cond b (controller.begun session state) state) (lt-ltb state.session session later)

-- a call of the nodes' that names the next id, which no volume has
abbrev pub controller_frame : ℕ → ControllerState → Frame
controller_frame session state = call_frame (number_of session) Controller (calls.NodeUnstageVolume state.next_id)

-- it does nothing else
pub controller-same : (config : Config) (session : ℕ) (state : ControllerState) → controllers.AreNamed state → state.session < session
    → (controller.fenced config state (controller_frame session state)).state ≡ controller.begun session state
controller-same config session state named later = same
  where
    kept : Kept
    kept = record { number = number_of session; kind = kind_of (calls.NodeUnstageVolume state.next_id); reply = plain_reply Unimplemented [] }

    clash : (i j : ℕ) → i ≡ j → i < j → ⊥
    clash i j e less = omega arith

    none : find (λ (v : Volume). v.id == state.next_id) (controller.begun session state).volumes ≡ None
    none =
        find-none_in_filter (λ (v : Volume). v.id == state.next_id) (λ (v : Volume). v.is_live) state.volumes
        (none-where (volume_with_id state.next_id state) (λ volume is. clash state.next_id state.next_id refl (named.given state.next_id volume is)))

    same : (controller.fenced config state (call_frame (number_of session) Controller (calls.NodeUnstageVolume state.next_id))).state ≡ controller.begun session state
    same =
        ap (λ b. (cond b (answered_only (controller.controller_with config) state (number_of session) (kind_of (calls.NodeUnstageVolume state.next_id)) stale_reply)
        (fenced_call (controller.controller_with config) (in_session (controller.controller_with config) (number_of session) state) (number_of session) (calls.NodeUnstageVolume state.next_id)
        (controller.kept_for (calls.NodeUnstageVolume state.next_id) (in_session (controller.controller_with config) (number_of session) state)))).state)
        (le-ltb session state.session (not-later state.session session later))
        ∙ ap (λ b. (fenced_call (controller.controller_with config) (cond b (controller.begun session state) state) (number_of session) (calls.NodeUnstageVolume state.next_id)
        (controller.kept_for (calls.NodeUnstageVolume state.next_id) (cond b (controller.begun session state) state))).state) (lt-ltb state.session session later)
        ∙ ap (λ o. (fenced_call (controller.controller_with config) (controller.begun session state) (number_of session) (calls.NodeUnstageVolume state.next_id) (option_map (λ (v : Volume). v.kept) o)).state) none
        ∙ ap (λ (vs : List Volume). record (controller.begun session state) { volumes = vs })
        (map-same (controller.kept_in (calls.NodeUnstageVolume state.next_id) kept) (controller.begun session state).volumes
        (λ v among. ap (λ b. cond b (let u : Volume = record v { kept = kept } in u) v) (none_passes (λ (u : Volume). u.id == state.next_id) (controller.begun session state).volumes v none among)))

-- ---- a node

-- it has begun the session
pub raised-node : (session : ℕ) (state : NodeState) → state.session < session → node_raised.raised session state ≡ node.begun session state
raised-node session state later = ap (λ b. cond b (node.begun session state) state) (lt-ltb state.session session later)

-- a call of the controller's
abbrev pub node_frame : ℕ → List ℕ → Frame
node_frame session id = call_frame (number_of session) (Node id) (calls.CreateVolume [] 0 0 [])

-- it does nothing else
pub node-same : (id : List ℕ) (session : ℕ) (state : NodeState) → state.session < session → (node.fenced id state (node_frame session id)).state ≡ node.begun session state
node-same id session state later = grind (arith, same_text-tells, le-ltb, not-later, lt-ltb, was_carried, Carried, no_room, has_room)

-- so a node's state that has begun a session is one to which frames lead
pub node-begun : (id : List ℕ) (session : ℕ) (state : NodeState) → state.session < session → ((joined : ℕ) × (frames : List Frame) × (state ≡ after_frames id (joined_node joined) frames))
    → (joined : ℕ) × (frames : List Frame) × (node.begun session state ≡ after_frames id (joined_node joined) frames)
node-begun id session state later of = (
  of.0,
  of.1 ++ node_frame session id ∷ [],
  sym (node-same id session state later) ∙ ap (λ (s : NodeState). (node.fenced id s (node_frame session id)).state) of.2 ∙ sym (node-more id (joined_node of.0) of.1 (node_frame session id)),
)
