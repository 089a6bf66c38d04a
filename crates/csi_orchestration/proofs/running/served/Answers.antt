-- The writer with its first line stands between.
use Rattle.std.proofs.Common.{inr, subst, Ok}
use Rattle.csi_orchestrator.specs.Model.Shown.{OrchestratorParts}
use Rattle.csi_service.specs.Public.OrchestratorServices.{ServedOrchestrator}
use Rattle.csi_orchestration.specs.Public.Running.{WritesFirst}
use Rattle.csi_orchestration.proofs.running.served.Goals as goal

pub returns-in-Ok-clause-begins : goal.returns-in-Ok-clause-begins
returns-in-Ok-clause-begins g c =
    let serves = c.serve_lines.ensures.serves in
    inr (record {
      begun = c.begin.new.writer;
      first =
          subst (λ (s : ServedOrchestrator). WritesFirst g.W.Write.contents s.orchestrator c.args.writer.now c.begin.new.writer (Ok tt)) c.service.ensures
          (subst (λ (o : OrchestratorParts). WritesFirst g.W.Write.contents o c.args.writer.now c.begin.new.writer (Ok tt)) c.orchestrator.ensures.value c.in-Ok.ensures);
      result = c.serve_lines.result;
      served = record {
        honest = c.serve_lines.ensures.follows.honest;
        bytes = serves.0;
        consumed = serves.1;
        serves = serves.2;
      };
      ends = c.ending_of_serving.ensures;
    })
