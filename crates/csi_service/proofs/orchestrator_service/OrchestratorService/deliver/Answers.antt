-- The row of the open call is told, unless the frame is ignored.
use Rattle.std.proofs.Common.{◌∙◌, ap}
use Rattle.csi_types.specs.declared.number.Number.{Number}
use Rattle.csi_orchestrator.specs.Public.Changed.{place_by_call}
use Rattle.csi_service.specs.Public.OrchestratorServices.{ServedOrchestrator}
use Rattle.csi_service.proofs.OrchestratorChanges.{heard-told}
use Rattle.csi_service.proofs.orchestrator_service.OrchestratorService.deliver.Goals as goal

pub returns-clause-changed : goal.returns-clause-changed
returns-clause-changed c =
    heard-told c.in_ok-heard.heard c.args.frame.now.number c.place_of_call-place.result c.row_heard-self-inside.result c.args.self.now c.self.inside.orchestrator c.deliver.new.self
    (ap (λ (service : ServedOrchestrator). service.orchestrator) c.self.view_is)
    (c.place_of_call-place.ensures ∙ ap (λ (n : Number). place_by_call n c.self.inside.orchestrator.rows) c.number.ensures) c.row_heard-self-inside.ensures.value c.in_ok-heard.ensures.changed
