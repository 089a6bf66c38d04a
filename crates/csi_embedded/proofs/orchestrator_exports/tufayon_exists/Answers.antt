use Rattle.csi_embedded.specs.Public.Knowing.{AsksExists}
use Rattle.csi_embedded.proofs.Asked.{known-read}
use Rattle.csi_embedded.proofs.orchestrator_exports.tufayon_exists.Goals as goal

pub returns-clause-known : goal.returns-clause-known
returns-clause-known c = known-read (AsksExists c.args.name.now) c.exists_of-thing.result c.args.orchestrator.now.held.embedded _ _ c.exists_of-thing.ensures.asked c.exists_of-thing.ensures.none c.know_handle.ensures.known
