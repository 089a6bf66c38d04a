use Rattle.csi_embedded.proofs.Asked.{empty-volume}
use Rattle.csi_embedded.proofs.orchestrator_exports.tufayon_volume.Goals as goal

pub returns-in-None-clause-volume : goal.returns-in-None-clause-volume
returns-in-None-clause-volume c = empty-volume c.args.place c.args.orchestrator.now.held.embedded _ _ _ c.number-in-None.result c.in-None.ensures.taken c.number-in-None.ensures
