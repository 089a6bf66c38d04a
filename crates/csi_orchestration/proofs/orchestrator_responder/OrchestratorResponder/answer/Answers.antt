-- A line that is no request is refused by its fault.
use Rattle.std.proofs.Common.{sym, subst, IfOk, string_bytes, Result}
use Rattle.csi_json.specs.declared.request_fault.RequestFault.{RequestFault}
use Rattle.csi_json.specs.Public.Requests.{RequestShown, line_request}
use Rattle.csi_orchestration.specs.Public.OrchestratorLines.{AnswersRequest}
use Rattle.csi_orchestration.specs.Private.OrchestratorResponding.{IsTold}
use Rattle.csi_orchestration.proofs.OrchestratorResponding.{of-fault}
use Rattle.csi_orchestration.proofs.orchestrator_responder.OrchestratorResponder.answer.Goals as goal

pub returns-in_default-clause-told : goal.returns-in_default-clause-told
returns-in_default-clause-told c =
    let is = of-fault (line_request c.args.line.now) c.in-Err.fault c.in_default.not-NoMemory c.in-Err.ensures.fault in
    subst (λ (asked : Result RequestShown RequestFault). IfOk c.refuse_line.result (λ text. IsTold (AnswersRequest asked) c.args.self.now (string_bytes text) c.refuse_line.new.self)) (sym is) c.refuse_line.ensures.told
