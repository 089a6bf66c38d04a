-- By the law of two runs, and what each line does to a history.
use Rattle.csi_orchestration.proofs.OrchestratorRuns.{one-history}
use Rattle.csi_orchestration.proofs.running.orchestrator_runs_law.Goals as goal

pub returns : goal.returns
returns g c = one-history _ _ _ _ c.form_law.ensures c.records_law.ensures c.lines_runs_law.ensures
