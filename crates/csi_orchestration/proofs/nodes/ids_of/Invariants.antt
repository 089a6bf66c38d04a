-- The ids of the first nodes were copied.
use Rattle.std.proofs.Common.{◌≡◌, take}
use Rattle.csi_orchestration.specs.Public.Nodes.{node_ids}
use Rattle.csi_orchestration.proofs.nodes.ids_of.Given as goal

abbrev pub invariant-loop-node : goal.invariant-loop-node
invariant-loop-node l = l.ids.items ≡ node_ids (take l.node-index l.fn.nodes)
