use Rattle.csi_embedded.specs.Public.Asking.{AsksDelete}
use Rattle.csi_embedded.proofs.Asked.{asked-read}
use Rattle.csi_embedded.proofs.orchestrator_exports.tufayon_delete.Goals as goal

pub returns : goal.returns
returns c = asked-read (AsksDelete c.args.name.now) c.delete_of-command.result c.args.orchestrator.now.held.embedded c.ask_handle.new.orchestrator.held.embedded _ _ _ _ _ c.delete_of-command.ensures.asked c.delete_of-command.ensures.none c.ask_handle.ensures
