use Rattle.csi_embedded.specs.Public.Asking.{AsksStop}
use Rattle.csi_embedded.proofs.Asked.{asked-read}
use Rattle.csi_embedded.proofs.orchestrator_exports.tufayon_stop.Goals as goal

pub returns : goal.returns
returns c = asked-read (AsksStop c.args.name.now c.args.node.now c.args.target.now) c.stop_of-command.result c.args.orchestrator.now.held.embedded c.ask_handle.new.orchestrator.held.embedded _ _ _ _ _ c.stop_of-command.ensures.asked c.stop_of-command.ensures.none c.ask_handle.ensures
