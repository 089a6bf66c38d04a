-- The records of a world's plugins. This profile's own.
use Rattle.std.specs.Prelude.{◌≡◌}
use Rattle.csi_node.specs.Model.Record.{NodeParts, Shows}
use Rattle.csi_node.specs.Model.State.{NodeState}

-- a record of this node
pub record IsCopyOf (node kept : NodeParts) : Type 0 where
  pub id : kept.id ≡ node.id
  pub shown : (state : NodeState) → Shows node state → Shows kept state
