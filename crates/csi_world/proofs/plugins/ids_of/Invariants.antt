-- The ids of the first nodes were copied.
use Rattle.csi_world.proofs.Words.{◌≡◌, map, take, node_id}
use Rattle.csi_world.proofs.plugins.ids_of.Given as goal

abbrev pub invariant-loop-node : goal.invariant-loop-node
invariant-loop-node l = l.ids.items ≡ map node_id (take l.node-index l.fn.nodes)
