-- Those of the first ones were added.
use Rattle.csi_world.proofs.Words.{◌≡◌, ◌++◌, take, flat_map, things_at}
use Rattle.csi_world.proofs.auditing.things.add_nodes.Given as goal

abbrev pub invariant-loop-node : goal.invariant-loop-node
invariant-loop-node l = l.things.items ≡ l.fn.things.items ++ flat_map (things_at l.rows) (take l.node-index l.nodes)
