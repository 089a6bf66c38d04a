-- By the law of two runs, twice.
use Rattle.csi_orchestration.proofs.OrchestratorRuns.{three-histories}
use Rattle.csi_orchestration.proofs.running.orchestrator_three_runs_law.Goals as goal

pub returns : goal.returns
returns g c = three-histories _ _ _ _ _ c.orchestrator_runs_law.ensures c.orchestrator_runs_law-2.ensures
