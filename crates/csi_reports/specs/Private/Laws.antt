-- What is said of each node for the law on reports. This profile's own.
use Rattle.csi_node.specs.Model.Record.{NodeParts, Shows}
use Rattle.csi_node.specs.Model.State.{NodeState}

-- a state is there that the node shows
abbrev pub ShowsAState : NodeParts → Type 0
ShowsAState node = (state : NodeState) × Shows node state
