use Rattle.std.proofs.Common.{◌≡◌, take}
use Rattle.csi_embedded.specs.Public.OrchestratorMaking.{node_ids}
use Rattle.csi_embedded.proofs.orchestrator_making.ids_of.Given as goal

-- the ids of the first nodes were copied
abbrev pub invariant-loop-node : goal.invariant-loop-node
invariant-loop-node l = l.ids.items ≡ node_ids (take l.node-index l.fn.nodes)
