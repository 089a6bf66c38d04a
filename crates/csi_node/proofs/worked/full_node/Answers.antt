-- The call is of the node's session, its volume has no row, and there is room for none.
use Rattle.std.proofs.Common.{◌∙◌}
use Rattle.csi_fence.proofs.LetThrough.{own_call}
use Rattle.csi_node.specs.Model.Fenced.{node_at}
use Rattle.csi_node.proofs.worked.full_node.Goals as goal

pub returns : goal.returns
returns c node state number call same full none = own_call (node_at node) state number call same ∙ simp (none, full)
