use Rattle.csi_embedded.specs.Public.Asking.{AsksUse}
use Rattle.csi_embedded.proofs.Asked.{asked-read}
use Rattle.csi_embedded.proofs.orchestrator_exports.tufayon_use.Goals as goal

pub returns : goal.returns
returns c = asked-read (AsksUse c.args.name.now c.args.node.now c.args.target.now c.args.capability.now c.args.readonly) c.use_of-command.result c.args.orchestrator.now.held.embedded c.ask_handle.new.orchestrator.held.embedded _ _ _ _ _ c.use_of-command.ensures.asked c.use_of-command.ensures.none c.ask_handle.ensures
