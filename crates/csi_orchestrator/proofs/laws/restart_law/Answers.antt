-- By what its type keeps.
use Rattle.csi_orchestrator.proofs.PromisesTold.{restarts-told}
use Rattle.csi_orchestrator.proofs.laws.restart_law.Goals as goal

pub returns : goal.returns
returns c = restarts-told c.args.orchestrator.now c.session-session.ensures.kept
