-- The row of the name is told, unless nothing is sent.
use Rattle.std.proofs.Common.{◌∙◌, ap, sym}
use Rattle.csi_types.proofs.Options.{none-from_is_some}
use Rattle.csi_orchestrator.specs.Public.Changed.{place_by_name}
use Rattle.csi_service.specs.Public.OrchestratorServices.{ServedOrchestrator}
use Rattle.csi_service.proofs.OrchestratorChanges.{some-told}
use Rattle.csi_service.proofs.orchestrator_service.OrchestratorService.delete.Goals as goal

pub returns-clause-changed : goal.returns-clause-changed
returns-clause-changed c =
    some-told c.in_ok-sent.sent c.is_some.result (place_by_name c.args.name.now c.delete.new.self.rows) c.row_named-self-inside.result c.args.self.now c.self.inside.orchestrator c.delete.new.self
    (ap (λ (service : ServedOrchestrator). service.orchestrator) c.self.view_is) c.row_named-self-inside.ensures.value c.in_ok-sent.ensures.changed
    (λ none. c.in_ok-sent.ensures.rests (none-from_is_some c.in_ok-sent.sent (sym c.is_some.ensures ∙ none)))
