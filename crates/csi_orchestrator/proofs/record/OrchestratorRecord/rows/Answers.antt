-- By the rules of a record's rows.
use Rattle.csi_orchestrator.proofs.Words.{sym, subst, AllByRecursion, IsRowFew}
use Rattle.csi_orchestrator.proofs.FewRows.{record-few}
use Rattle.csi_orchestrator.proofs.record.OrchestratorRecord.rows.Goals as goal

pub returns-clause-few : goal.returns-clause-few
returns-clause-few c = subst (AllByRecursion IsRowFew) (sym c.rows.ensures) (record-few _ _ c.self.invariant.1)
