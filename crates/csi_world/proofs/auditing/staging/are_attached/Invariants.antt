-- All is attached at the nodes that are left exactly where it is at all.
use Rattle.csi_world.proofs.Words.{◌≡◌, drop, list_all, is_node_attached}
use Rattle.csi_world.proofs.auditing.staging.are_attached.Given as goal

abbrev pub invariant-loop-node : goal.invariant-loop-node
invariant-loop-node l = list_all (is_node_attached l.rows) (drop l.node-index l.nodes) ≡ list_all (is_node_attached l.rows) l.nodes
