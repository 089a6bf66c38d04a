use Rattle.csi_embedded.proofs.LostNodes.{empty-lost}
use Rattle.csi_embedded.proofs.orchestrator_exports.lose_handle.Goals as goal

pub returns-in-None : goal.returns-in-None
returns-in-None c = empty-lost c.args.node c.args.orchestrator.now.held.embedded c.take.new.self.held.embedded _ c.number-in-None.result c.in-None.ensures.taken c.in-None.ensures.left c.number-in-None.ensures
