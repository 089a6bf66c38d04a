use Rattle.csi_embedded.proofs.Handles.{empty-record}
use Rattle.csi_embedded.proofs.exports.tufayon_record.Goals as goal

pub returns-in-None-clause-record : goal.returns-in-None-clause-record
returns-in-None-clause-record c = empty-record c.args.plugin.now.held.embedded _ _ _ c.number-in-None.result c.in-None.ensures.taken c.number-in-None.ensures
