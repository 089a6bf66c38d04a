-- The row that is told is the one of the name.
use Rattle.std.proofs.Common.{ap}
use Rattle.csi_service.specs.Public.OrchestratorServices.{ServedOrchestrator}
use Rattle.csi_service.proofs.OrchestratorChanges.{created-told}
use Rattle.csi_service.proofs.orchestrator_service.OrchestratorService.create.Goals as goal

pub returns-clause-changed : goal.returns-clause-changed
returns-clause-changed c =
    created-told c.in_ok-sent.sent c.args.name c.place_for-place.result c.args.self.now c.self.inside.orchestrator c.create.new.self (ap (λ (service : ServedOrchestrator). service.orchestrator) c.self.view_is)
    c.place_for-place.ensures c.in_ok-sent.ensures.changed
