-- A world: an orchestrator, a controller, the nodes that are there, and every frame that was ever sent. This profile's own.
use Rattle.std.specs.Prelude.{ℕ, List, [], ◌∷◌, ◌++◌, map, filter, find, not, Option, Some, None, option_map, if◌then◌else◌}
use Rattle.csi_types.specs.declared.config.NodeSlots.{NodeSlots}
use Rattle.csi_types.specs.Model.Config.{Config}
use Rattle.csi_types.specs.Model.Frame.{Frame}
use Rattle.csi_types.specs.Model.Same.{same_text}
use Rattle.csi_controller.specs.Model.State.{ControllerState, empty_controller}
use Rattle.csi_node.specs.Model.State.{NodeState, joined_node}
use Rattle.csi_orchestrator.specs.Model.History.{Item, History, new_history, with_items}

-- a node that is there, and what it knows
pub record NodeAt : Type 0 where
  pub id : List ℕ
  pub state : NodeState

-- the frames in the order in which they were sent, replies too; no frame is ever taken out, so a frame that is
-- lost is one that is never delivered. There are three lists of nodes: the controller's configuration, the list of the orchestrator,
-- which its history has, and the nodes that are there, in the order in which they joined
pub record World : Type 0 where
  pub config : Config
  pub frames : List Frame
  pub controller : ControllerState
  pub nodes : List NodeAt
  pub history : History

-- a node that joined when this session was the last one that began, and did nothing
abbrev pub new_node : ℕ → List ℕ → NodeAt
new_node session id = record { id = id; state = joined_node session }

-- a node's id
abbrev pub node_id : NodeSlots → List ℕ
node_id node = node.id

-- nothing was sent, and nobody did anything; the nodes of the configuration are there, and in the orchestrator's list
abbrev pub empty_world : Config → World
empty_world config =
    record {
      config = config;
      frames = [];
      controller = empty_controller;
      nodes = map (new_node 0) (map node_id config.nodes);
      history = new_history (map node_id config.nodes);
    }

-- what the node of an id knows, if it is there
abbrev pub node_state : List ℕ → World → Option NodeState
node_state id world = option_map (λ node. node.state) (find (λ node. same_text node.id id) world.nodes)

-- the node, knowing this if it is the one of this id
abbrev pub with_state : List ℕ → NodeState → NodeAt → NodeAt
with_state id state node = if same_text node.id id then record node { state = state } else node

-- the world where the node of this id knows this
abbrev pub with_node : List ℕ → NodeState → World → World
with_node id state world = record world { nodes = map (with_state id state) world.nodes }

-- a node joins, and is told this session
abbrev pub with_new_node : ℕ → List ℕ → World → World
with_new_node session id world = record world { nodes = world.nodes ++ new_node session id ∷ [] }

-- the node of this id is no more
abbrev pub without_node : List ℕ → World → World
without_node id world = record world { nodes = filter (λ node. not (same_text node.id id)) world.nodes }

-- the frame is sent, if there is one
abbrev pub with_frame : Option Frame → World → World
with_frame None world = world
with_frame (Some frame) world = record world { frames = world.frames ++ frame ∷ [] }

-- the orchestrator goes on by these items, the newest first
abbrev pub with_history : List Item → World → World
with_history items world = record world { history = with_items world.history items }
