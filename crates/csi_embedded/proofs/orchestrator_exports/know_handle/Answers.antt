use Rattle.csi_embedded.proofs.Asked.{empty-known}
use Rattle.csi_embedded.proofs.orchestrator_exports.know_handle.Goals as goal

pub returns-clause-known : goal.returns-clause-known
returns-clause-known c = empty-known c.args.thing c.args.orchestrator.now.held.embedded c.args.known.now c.number-in-None.result c.in-None.ensures.taken c.number-in-None.ensures
