-- All of the record is told, and the nodes are few and different still.
use Rattle.std.proofs.Common.{◌∙◌, ap, sym, subst, length}
use Rattle.std.proofs.lemmas.List.{length-map}
use Rattle.csi_orchestrator.specs.Model.Shown.{OrchestratorParts}
use Rattle.csi_orchestrator.specs.Public.Record.{AreNodesFit}
use Rattle.csi_orchestrator.specs.Public.Shown.{row_shown}
use Rattle.csi_service.specs.Public.OrchestratorServices.{ServedOrchestrator}
use Rattle.csi_service.proofs.WholeChanges.{fit-without, loss-told}
use Rattle.csi_service.proofs.orchestrator_service.OrchestratorService.lose.Goals as goal

pub returns-clause-changed : goal.returns-clause-changed
returns-clause-changed c =
    loss-told tt c.args.self.now c.self.inside.orchestrator c.lose.new.self (length c.rows-before.result.now) (ap (λ (service : ServedOrchestrator). service.orchestrator) c.self.view_is)
    (sym (length-map c.rows-before.result.now row_shown) ∙ ap length c.rows-before.ensures.value)

pub invariant_of-self-2 : goal.invariant_of-self-2
invariant_of-self-2 c = subst (λ (o : OrchestratorParts). AreNodesFit o.nodes) (sym c.in_ok-lose.ensures.value) (fit-without c.args.node.now c.self.inside.orchestrator.nodes c.self.invariant)
