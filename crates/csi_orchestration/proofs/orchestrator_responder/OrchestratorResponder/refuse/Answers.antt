use Rattle.std.proofs.Common.{rules}
use Rattle.csi_orchestration.proofs.orchestrator_responder.OrchestratorResponder.refuse.Goals as goal

pub returns : goal.returns
returns c = search rules
