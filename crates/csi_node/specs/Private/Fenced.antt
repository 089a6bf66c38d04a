-- What a node does with a frame: the fence, then the table. This profile's own.
use Rattle.std.specs.Prelude.{ℕ, List}
use Rattle.csi_types.specs.declared.number.Number.{Number}
use Rattle.csi_types.specs.declared.call.Call.{Call}
use Rattle.csi_fence.specs.Model.Fenced as fence
use Rattle.csi_fence.specs.Model.Fenced.{Fenced}
use Rattle.csi_node.specs.Model.State.{NodeState}
use Rattle.csi_node.specs.Model.Fenced.{node_at}

-- the state in which a call of this number is judged
abbrev pub in_session : List ℕ → Number → NodeState → NodeState
in_session node number state = fence.in_session (node_at node) number state

-- what a call gets, and the state after it
abbrev pub answered_in : List ℕ → NodeState → Number → Call → Fenced NodeState
answered_in node state number call = fence.answered_in (node_at node) state number call
