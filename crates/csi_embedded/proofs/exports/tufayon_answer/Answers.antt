use Rattle.csi_embedded.proofs.Handles.{empty-failed}
use Rattle.csi_embedded.proofs.exports.tufayon_answer.Goals as goal

pub returns-in-None-clause-refused : goal.returns-in-None-clause-refused
returns-in-None-clause-refused c = λ _. empty-failed c.args.plugin.now.held.embedded c.take.new.self.held.embedded c.args.frame.now _ c.number-in-None.result c.in-None.ensures.taken c.in-None.ensures.left c.number-in-None.ensures
