use Rattle.csi_embedded.specs.Public.Knowing.{AsksStaged}
use Rattle.csi_embedded.proofs.Asked.{known-read}
use Rattle.csi_embedded.proofs.orchestrator_exports.tufayon_staged.Goals as goal

pub returns-clause-known : goal.returns-clause-known
returns-clause-known c = known-read (AsksStaged c.args.name.now c.args.node.now) c.staged_of-thing.result c.args.orchestrator.now.held.embedded _ _ c.staged_of-thing.ensures.asked c.staged_of-thing.ensures.none c.know_handle.ensures.known
