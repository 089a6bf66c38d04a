use Rattle.csi_embedded.specs.Public.Knowing.{AsksPublished}
use Rattle.csi_embedded.proofs.Asked.{known-read}
use Rattle.csi_embedded.proofs.orchestrator_exports.tufayon_published.Goals as goal

pub returns-clause-known : goal.returns-clause-known
returns-clause-known c = known-read (AsksPublished c.args.name.now c.args.node.now c.args.target.now) c.published_of-thing.result c.args.orchestrator.now.held.embedded _ _ c.published_of-thing.ensures.asked c.published_of-thing.ensures.none c.know_handle.ensures.known
