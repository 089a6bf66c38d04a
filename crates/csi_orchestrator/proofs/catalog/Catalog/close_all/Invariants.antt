-- The calls before this turn are closed.
use Rattle.csi_orchestrator.proofs.NotedCalls.{ClosedBefore}
use Rattle.csi_orchestrator.proofs.catalog.Catalog.close_all.Given as goal

abbrev pub invariant-loop-turn : goal.invariant-loop-turn
invariant-loop-turn l = ClosedBefore l.fn.self l.turn l.self
