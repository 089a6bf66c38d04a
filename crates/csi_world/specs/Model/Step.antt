-- What may happen in a world whose orchestrator keeps the guards, whatever else it does, and in whatever order
-- frames come. This profile's own; the guards are CSI's ("Volume Lifecycle").
use Rattle.std.specs.Prelude.{ℕ, List, Option, Some, None}
use Rattle.csi_types.specs.declared.call.Party.{Party}
use Rattle.csi_types.specs.declared.call.Party.TheVariants.{Controller, Node}
use Rattle.csi_types.specs.Model.Frame.{Frame}
use Rattle.csi_fence.specs.Model.Fenced.{Fenced}
use Rattle.csi_controller.specs.Model.State.{ControllerState}
use Rattle.csi_controller.specs.Model.Fenced as controller
use Rattle.csi_node.specs.Model.State.{NodeState}
use Rattle.csi_node.specs.Model.Fenced as node
use Rattle.csi_world.specs.Model.World.{World, node_state, with_node, with_frame}

-- a node's reply to a frame, and what it knows then
abbrev pub answered_by_node : List ℕ → World → Frame → Option NodeState → World
answered_by_node id world frame None = world
answered_by_node id world frame (Some state) =
    let fenced : Fenced NodeState = node.fenced id state frame in
    with_frame fenced.reply (with_node id fenced.state world)

-- a plugin's reply to a frame, and what it knows then
abbrev pub answered_by : World → Frame → Party → World
answered_by world frame Controller =
    let fenced : Fenced ControllerState = controller.fenced world.config world.controller frame in
    with_frame fenced.reply (record world { controller = fenced.state })
answered_by world frame (Node id) = answered_by_node id world frame (node_state id world)

-- the plugin that a frame is for does with it what it does
abbrev pub answered_by_plugin : World → Frame → World
answered_by_plugin world frame = answered_by world frame frame.party
