use Rattle.csi_embedded.proofs.MadeOfRecords.{empty-raised}
use Rattle.csi_embedded.proofs.recovery_exports.tufayon_raise.Goals as goal

pub returns-in-None : goal.returns-in-None
returns-in-None c = empty-raised c.args.session c.args.plugin.now.held.embedded c.take.new.self.held.embedded c.number-in-None.result c.in-None.ensures.taken c.in-None.ensures.left c.number-in-None.ensures
