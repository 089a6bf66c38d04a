-- The lists are of the first nodes.
use Rattle.csi_world.proofs.Words.{take, map, node_listed, AreListsOf}
use Rattle.csi_world.proofs.auditing.gathering.list_plugins.Given as goal

abbrev pub invariant-loop-node : goal.invariant-loop-node
invariant-loop-node l = AreListsOf (take l.node-index l.nodes) (map node_listed l.lists.items)
