-- The store as it was opened stands between.
use Rattle.std.proofs.Common.{subst}
use Rattle.csi_orchestrator.specs.Public.Laws.{RestartsAreTold}
use Rattle.csi_orchestration.proofs.OpenedOrchestrators.{opened-with, run}
use Rattle.csi_orchestration.proofs.running.orchestrator.Goals as goal

pub returns-in-Ok-clause-runs : goal.returns-in-Ok-clause-runs
returns-in-Ok-clause-runs g c =
    let e = c.in-Ok.ensures in
    run _ _ _ _ _ _ _ _ _ _ _ _ _ _ (opened-with _ _ _ _ _ c.in-Ok.service _ c.new-responder.ensures.service e.opened e.nodes e.fit (c.record_law.ensures.there e.fit) (subst RestartsAreTold c.orchestrator.ensures.value c.restart_law.ensures) e.honest e.left) c.served.ensures.begins
