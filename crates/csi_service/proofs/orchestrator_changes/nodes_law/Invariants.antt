use Rattle.std.proofs.Common.{take}
use Rattle.std.specs.List.{AllByRecursion}
use Rattle.csi_types.specs.Public.Text.{IsNodeId}
use Rattle.csi_service.proofs.orchestrator_changes.nodes_law.Given as goal

-- the nodes so far are texts within their limits
abbrev pub invariant-loop-node : goal.invariant-loop-node
invariant-loop-node l = AllByRecursion IsNodeId (take l.node-index l.nodes)
