-- A floor: a session that each plugin which is there has reached, and the orchestrator's last number. No call of an earlier session is carried out,
-- whoever sent it.
use Rattle.csi_world.proofs.Words.{ℕ, ◌<◌, ◌≤◌, List, map, not, sym, ◌∙◌, subst, ⊎_elim, arith, Number, Party, Body}
use Rattle.csi_world.proofs.Words.{Config, same_text, IsAmong, Kept, Fenced, fenced_parts, ControllerState, NodeState}
use Rattle.csi_world.proofs.Words.{volume_of, Item, last_number, NodeAt, World, with_state, new_node, with_new_node}
use Rattle.csi_world.proofs.Words.{without_node, with_history}
use Rattle.csi_world.proofs.Lemmas.{among-either, among-filter, among-map, Carried, no_room, has_room, was_carried}
use Rattle.csi_world.proofs.Lemmas.{kept_of, keep-session, changed-session}
use Rattle.csi_types.specs.declared.frame.Body.TheVariants as bodies
use Rattle.csi_controller.specs.Model.Fenced as controllers
use Rattle.csi_node.specs.Model.Table as node_table
use Rattle.csi_node.specs.Model.Fenced as nodes
use Rattle.csi_world.proofs.JudgedCalls.{call-so, changed-sessions}

-- what is below a floor is below what has reached it
pub under : (a b s : ℕ) → a < b → b ≤ s → a < s
under a b s less more = omega (arith, less, more)

-- what has reached a floor
pub record HasFloor (floor : ℕ) (world : World) : Type 0 where
  pub controller : floor ≤ world.controller.session
  pub nodes : (at : NodeAt) → IsAmong at world.nodes → floor ≤ at.state.session
  pub last : floor ≤ (last_number world.history).session

-- a controller that got a frame of such a session
pub floor-controller : (config : Config) (floor : ℕ) (state : ControllerState) (number : Number) (party : Party) (body : Body) → floor ≤ number.session → floor ≤ state.session
    → floor ≤ (fenced_parts (controllers.controller_with config) state number party body).state.session
floor-controller config floor state number party body above own = grind (arith, call-so, changed-sessions)

-- so did a node
pub floor-node : (node : List ℕ) (floor : ℕ) (state : NodeState) (number : Number) (party : Party) (body : Body) → floor ≤ number.session → floor ≤ state.session
    → floor ≤ (fenced_parts (nodes.node_at node) state number party body).state.session
floor-node node floor state number party (bodies.Call call) above own =
    call-so (nodes.node_at node) (λ (s : NodeState). floor ≤ s.session) number call (λ s h. above) carries state party own
  where
    carries : (s : NodeState) → floor ≤ s.session → floor ≤ (nodes.carried_out node s number call (node_table.node_row s call)).state.session
    carries s h = by _ (was_carried node s number call)
      where
        by : (after : Fenced NodeState) → Carried node s number call after → floor ≤ after.state.session
        by _ (no_room full) = h
        by _ (has_room room) =
            let kept : Kept = kept_of s number call in
            subst (λ n. floor ≤ n) (sym (keep-session (volume_of call) kept (node_table.changed s (node_table.lifecycle_row s call).change) ∙ changed-session s (node_table.lifecycle_row s call).change)) h
floor-node node floor state number party (bodies.Reply kind reply) above own = own

-- one node knows something else
pub floor-with_state : (floor : ℕ) (id : List ℕ) (state : NodeState) (ns : List NodeAt) → floor ≤ state.session → ((at : NodeAt) → IsAmong at ns → floor ≤ at.state.session)
    → (at : NodeAt) → IsAmong at (map (with_state id state) ns) → floor ≤ at.state.session
floor-with_state floor id state ns own each at among = grind (arith, among-map)

-- the orchestrator goes on, in a session that is no earlier
pub floor-noted : {floor : ℕ} (world : World) (items : List Item) → HasFloor floor world → (last_number world.history).session ≤ (last_number (with_history items world).history).session → HasFloor floor (with_history items world)
floor-noted {floor} world items has grows = record { controller = has.controller; nodes = has.nodes; last = let last = has.last in omega (arith, last, grows) }

-- a node joins
pub floor-joined : {floor : ℕ} (world : World) (session : ℕ) (id : List ℕ) → floor ≤ session → HasFloor floor world → HasFloor floor (with_new_node session id world)
floor-joined {floor} world session id above has =
    record {
      controller = has.controller;
      nodes = λ at among. ⊎_elim (λ there. has.nodes at there) (λ e. subst (λ (n : NodeAt). floor ≤ n.state.session) (sym e) above) (among-either world.nodes (new_node session id) at among);
      last = has.last;
    }

-- a node is lost
pub floor-lost : {floor : ℕ} (world : World) (id : List ℕ) → HasFloor floor world → HasFloor floor (without_node id world)
floor-lost world id has = record { controller = has.controller; nodes = λ at among. has.nodes at (among-filter (λ (n : NodeAt). not (same_text n.id id)) world.nodes at among); last = has.last }
