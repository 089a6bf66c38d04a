-- The row of the name is told.
use Rattle.std.proofs.Common.{ap}
use Rattle.csi_service.specs.Public.OrchestratorServices.{ServedOrchestrator}
use Rattle.csi_orchestrator.specs.Public.Changed.{place_by_name}
use Rattle.csi_service.proofs.OrchestratorChanges.{row-told}
use Rattle.csi_service.proofs.orchestrator_service.OrchestratorService.timeout.Goals as goal

pub returns-clause-changed : goal.returns-clause-changed
returns-clause-changed c =
    row-told c.in_ok-sent.sent (place_by_name c.args.name.now c.timeout.new.self.rows) c.row_named-self-inside.result c.args.self.now c.self.inside.orchestrator c.timeout.new.self
    (ap (λ (service : ServedOrchestrator). service.orchestrator) c.self.view_is) c.row_named-self-inside.ensures.value c.in_ok-sent.ensures.changed
