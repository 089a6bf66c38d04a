-- The parts of its record are read as its own.
use Rattle.csi_service.specs.Public.OrchestratorServices.{kept_of}
use Rattle.csi_orchestration.proofs.orchestrator_responder.OrchestratorResponderResponder.record_law.Goals as goal

pub returns : goal.returns
returns c = λ fit. (kept_of c.args.self.now.service.orchestrator, c.record_law.ensures.there fit)
