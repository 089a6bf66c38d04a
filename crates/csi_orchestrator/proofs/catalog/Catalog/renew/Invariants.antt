-- The open calls of the rows before this index are noted, and no other.
use Rattle.csi_orchestrator.proofs.Words.{◌≤◌, length, rows_of}
use Rattle.csi_orchestrator.proofs.NotedCalls.{Renewed}
use Rattle.csi_orchestrator.proofs.catalog.Catalog.renew.Given as goal

abbrev pub invariant-loop-index : goal.invariant-loop-index
invariant-loop-index l = Renewed l.fn.self l.index l.self × (l.index ≤ length (rows_of l.fn.self))
