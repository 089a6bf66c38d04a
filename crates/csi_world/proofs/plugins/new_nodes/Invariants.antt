-- The first nodes were made.
use Rattle.csi_world.proofs.Words.{◌≡◌, map, take, node_id, new_node_parts}
use Rattle.csi_world.proofs.plugins.new_nodes.Given as goal

abbrev pub invariant-loop-one : goal.invariant-loop-one
invariant-loop-one l = l.nodes.items ≡ map (new_node_parts 0) (map node_id (take l.one-index l.fn.slots))
