-- What is left passes exactly where the whole list does.
use Rattle.csi_orchestrator.proofs.Words.{◌≡◌, drop, are_nodes_apart}
use Rattle.csi_orchestrator.proofs.judged_nodes.are_nodes_apart.Given as goal

abbrev pub invariant-loop-place : goal.invariant-loop-place
invariant-loop-place l = are_nodes_apart (drop l.place l.nodes) ≡ are_nodes_apart l.nodes
