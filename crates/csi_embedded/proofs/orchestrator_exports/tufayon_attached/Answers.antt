use Rattle.csi_embedded.specs.Public.Knowing.{AsksAttached}
use Rattle.csi_embedded.proofs.Asked.{known-read}
use Rattle.csi_embedded.proofs.orchestrator_exports.tufayon_attached.Goals as goal

pub returns-clause-known : goal.returns-clause-known
returns-clause-known c = known-read (AsksAttached c.args.name.now c.args.node.now) c.attached_of-thing.result c.args.orchestrator.now.held.embedded _ _ c.attached_of-thing.ensures.asked c.attached_of-thing.ensures.none c.know_handle.ensures.known
