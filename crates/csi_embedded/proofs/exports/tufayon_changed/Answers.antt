use Rattle.csi_embedded.proofs.Handles.{empty-told}
use Rattle.csi_embedded.proofs.exports.tufayon_changed.Goals as goal

pub returns-in-None-clause-told : goal.returns-in-None-clause-told
returns-in-None-clause-told c = empty-told c.args.plugin.now.held.embedded c.args.place c.args.key.now _ _ _ c.number-in-None.result c.in-None.ensures.taken c.number-in-None.ensures
