-- The head is put in, then the rows, and the keys behind them are taken out.
use Rattle.std.proofs.Common.{ap}
use Rattle.std.proofs.lemmas.Result.{on_ok_weaker}
use Rattle.csi_service.specs.Public.OrchestratorServices.{ServedOrchestrator}
use Rattle.csi_service.proofs.WholeChanges.{whole-pushed}
use Rattle.csi_service.proofs.orchestrator_service.OrchestratorService.push_whole.Goals as goal

pub returns-clause-parts : goal.returns-clause-parts
returns-clause-parts c =
    on_ok_weaker c.push_removals_behind.result
    (λ taken. whole-pushed c.rows-rows.result.now c.self.inside.orchestrator c.args.self.now.orchestrator c.args.before _ _ _ _ c.rows-rows.ensures.value
    (ap (λ (service : ServedOrchestrator). service.orchestrator) c.self.view_is) c.in_ok-push_head.ensures c.in_ok-push_orchestrator_rows.ensures.pushed taken)
    c.push_removals_behind.ensures
