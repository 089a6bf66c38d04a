use Rattle.csi_embedded.proofs.Asked.{empty-asked}
use Rattle.csi_embedded.proofs.orchestrator_exports.ask_handle.Goals as goal

pub returns-in-None : goal.returns-in-None
returns-in-None c =
    empty-asked c.args.command c.args.orchestrator.now.held.embedded c.take.new.self.held.embedded _ _ _ _ c.number-in-None.result c.in-None.ensures.taken c.in-None.ensures.left c.number-in-None.ensures
