use Rattle.csi_embedded.proofs.Asked.{empty-goal}
use Rattle.csi_embedded.proofs.orchestrator_exports.tufayon_goal.Goals as goal

pub returns-clause-goal : goal.returns-clause-goal
returns-clause-goal c = empty-goal c.args.name.now c.args.orchestrator.now.held.embedded _ _ _ c.number-in-None.result c.in-None.ensures.taken c.number-in-None.ensures
