-- The rows before this index lost the node.
use Rattle.csi_orchestrator.proofs.RowsForgotten.{LostBefore}
use Rattle.csi_orchestrator.proofs.catalog.Catalog.lose.Given as goal

abbrev pub invariant-loop-index : goal.invariant-loop-index
invariant-loop-index l = LostBefore l.node l.fn.self l.index l.self
