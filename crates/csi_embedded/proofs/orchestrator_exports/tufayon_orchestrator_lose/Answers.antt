use Rattle.csi_embedded.proofs.LostNodes.{lost-read}
use Rattle.csi_embedded.proofs.orchestrator_exports.tufayon_orchestrator_lose.Goals as goal

pub returns : goal.returns
returns c =
    lost-read c.args.node.now c.id_of-lost.result c.args.orchestrator.now.held.embedded c.lose_handle.new.orchestrator.held.embedded _ _ c.id_of-lost.ensures.made c.id_of-lost.ensures.fits c.id_of-lost.ensures.refused
    c.lose_handle.ensures
