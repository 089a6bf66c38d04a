-- By what happens.
use Rattle.std.proofs.Common.{sym, subst, IfOk, string_bytes, ℕ, List}
use Rattle.csi_types.specs.declared.event.Event.{Event}
use Rattle.csi_orchestrator.specs.Model.Moves.{ToCreate}
use Rattle.csi_orchestration.specs.Public.OrchestratorLines.{AnswersCommand, AnswersEvent}
use Rattle.csi_orchestration.specs.Private.OrchestratorResponding.{IsTold}
use Rattle.csi_orchestration.proofs.orchestrator_responder.OrchestratorResponder.command.Goals as goal

pub returns-in-Create : goal.returns-in-Create
returns-in-Create c =
    let made = c.in-Create in
    let input = ToCreate made.name (record { required = made.required; limit = made.limit; capabilities = made.capabilities }) in
    subst (λ (event : Event). IfOk c.create.result (λ text. IsTold (AnswersEvent event) c.args.self.now (string_bytes text) c.create.new.self)) (sym made.is)
    (subst (λ (name : List ℕ). IfOk c.create.result (λ text. IsTold (AnswersCommand input name) c.args.self.now (string_bytes text) c.create.new.self)) c.in_ok-copy-in-Create.ensures c.create.ensures)

pub returns-in-Use : goal.returns-in-Use
returns-in-Use c = subst (λ (event : Event). IfOk c.use_at.result (λ text. IsTold (AnswersEvent event) c.args.self.now (string_bytes text) c.use_at.new.self)) (sym c.in-Use.is) c.use_at.ensures

pub returns-in-Stop : goal.returns-in-Stop
returns-in-Stop c = subst (λ (event : Event). IfOk c.stop.result (λ text. IsTold (AnswersEvent event) c.args.self.now (string_bytes text) c.stop.new.self)) (sym c.in-Stop.is) c.stop.ensures

pub returns-in-Delete : goal.returns-in-Delete
returns-in-Delete c = subst (λ (event : Event). IfOk c.delete.result (λ text. IsTold (AnswersEvent event) c.args.self.now (string_bytes text) c.delete.new.self)) (sym c.in-Delete.is) c.delete.ensures

pub returns-in-Timeout : goal.returns-in-Timeout
returns-in-Timeout c = subst (λ (event : Event). IfOk c.timeout.result (λ text. IsTold (AnswersEvent event) c.args.self.now (string_bytes text) c.timeout.new.self)) (sym c.in-Timeout.is) c.timeout.ensures

pub returns-in-Deliver : goal.returns-in-Deliver
returns-in-Deliver c = subst (λ (event : Event). IfOk c.refuse.result (λ text. IsTold (AnswersEvent event) c.args.self.now (string_bytes text) c.refuse.new.self)) (sym c.in-Deliver.is) c.refuse.ensures

pub returns-in-RestartOrchestrator : goal.returns-in-RestartOrchestrator
returns-in-RestartOrchestrator c = subst (λ (event : Event). IfOk c.refuse-in-RestartOrchestrator.result (λ text. IsTold (AnswersEvent event) c.args.self.now (string_bytes text) c.refuse-in-RestartOrchestrator.new.self)) (sym c.in-RestartOrchestrator.is) c.refuse-in-RestartOrchestrator.ensures

pub returns-in-RestartController : goal.returns-in-RestartController
returns-in-RestartController c = subst (λ (event : Event). IfOk c.refuse-in-RestartController.result (λ text. IsTold (AnswersEvent event) c.args.self.now (string_bytes text) c.refuse-in-RestartController.new.self)) (sym c.in-RestartController.is) c.refuse-in-RestartController.ensures

pub returns-in-RestartOrchestratorWith : goal.returns-in-RestartOrchestratorWith
returns-in-RestartOrchestratorWith c = subst (λ (event : Event). IfOk c.refuse-in-RestartOrchestratorWith.result (λ text. IsTold (AnswersEvent event) c.args.self.now (string_bytes text) c.refuse-in-RestartOrchestratorWith.new.self)) (sym c.in-RestartOrchestratorWith.is) c.refuse-in-RestartOrchestratorWith.ensures

pub returns-in-RestartControllerWith : goal.returns-in-RestartControllerWith
returns-in-RestartControllerWith c = subst (λ (event : Event). IfOk c.refuse-in-RestartControllerWith.result (λ text. IsTold (AnswersEvent event) c.args.self.now (string_bytes text) c.refuse-in-RestartControllerWith.new.self)) (sym c.in-RestartControllerWith.is) c.refuse-in-RestartControllerWith.ensures

pub returns-in-RestartNode : goal.returns-in-RestartNode
returns-in-RestartNode c = subst (λ (event : Event). IfOk c.refuse-in-RestartNode.result (λ text. IsTold (AnswersEvent event) c.args.self.now (string_bytes text) c.refuse-in-RestartNode.new.self)) (sym c.in-RestartNode.is) c.refuse-in-RestartNode.ensures

pub returns-in-Join : goal.returns-in-Join
returns-in-Join c = subst (λ (event : Event). IfOk c.refuse-in-Join.result (λ text. IsTold (AnswersEvent event) c.args.self.now (string_bytes text) c.refuse-in-Join.new.self)) (sym c.in-Join.is) c.refuse-in-Join.ensures

pub returns-in-Settle : goal.returns-in-Settle
returns-in-Settle c = subst (λ (event : Event). IfOk c.refuse-in-Settle.result (λ text. IsTold (AnswersEvent event) c.args.self.now (string_bytes text) c.refuse-in-Settle.new.self)) (sym c.in-Settle.is) c.refuse-in-Settle.ensures

pub returns : goal.returns
returns c = subst (λ (event : Event). IfOk c.lose.result (λ text. IsTold (AnswersEvent event) c.args.self.now (string_bytes text) c.lose.new.self)) (sym c.in-Lose.is) c.lose.ensures
