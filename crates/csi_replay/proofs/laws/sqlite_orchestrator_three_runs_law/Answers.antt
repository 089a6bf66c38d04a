-- By the law of two runs, twice.
use Rattle.csi_orchestration.proofs.OrchestratorRuns.{three-histories}
use Rattle.csi_replay.proofs.laws.sqlite_orchestrator_three_runs_law.Goals as goal

pub returns : goal.returns
returns g c = three-histories _ _ _ _ _ c.sqlite_orchestrator_runs_law.ensures c.sqlite_orchestrator_runs_law-2.ensures
