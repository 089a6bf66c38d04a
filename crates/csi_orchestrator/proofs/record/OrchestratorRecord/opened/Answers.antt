-- Its rows have no open call, and no call is noted.
use Rattle.csi_orchestrator.specs.Public.Catalog.{rows_of}
use Rattle.csi_orchestrator.proofs.RowsOfRecord.{rows-closed}
use Rattle.csi_orchestrator.proofs.record.OrchestratorRecord.opened.Goals as goal

pub forget-requires-clause-closed : goal.forget-requires-clause-closed
forget-requires-clause-closed c = rows-closed _ (rows_of c.self.inside.catalog) (c.self.invariant.1).each

pub returns-clause-filed : goal.returns-clause-filed
returns-clause-filed c = record { indexed = c.forget.ensures.indexed; known = c.forget.ensures.known 0 }
