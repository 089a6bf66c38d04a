use Rattle.csi_embedded.specs.Public.Asking.{AsksTimeout}
use Rattle.csi_embedded.proofs.Asked.{asked-read}
use Rattle.csi_embedded.proofs.orchestrator_exports.tufayon_timeout.Goals as goal

pub returns : goal.returns
returns c = asked-read (AsksTimeout c.args.name.now) c.timeout_of-command.result c.args.orchestrator.now.held.embedded c.ask_handle.new.orchestrator.held.embedded _ _ _ _ _ c.timeout_of-command.ensures.asked c.timeout_of-command.ensures.none c.ask_handle.ensures
