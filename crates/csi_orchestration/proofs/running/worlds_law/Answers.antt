-- Event after event, by what each does to the orchestrator.
use Rattle.csi_orchestration.proofs.OrchestratorWorlds.{world-goes}
use Rattle.csi_orchestration.proofs.running.worlds_law.Goals as goal

pub returns : goal.returns
returns c = world-goes
