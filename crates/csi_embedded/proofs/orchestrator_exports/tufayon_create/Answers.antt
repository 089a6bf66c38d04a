use Rattle.csi_embedded.specs.Public.Asking.{AsksCreate}
use Rattle.csi_embedded.proofs.Asked.{asked-read}
use Rattle.csi_embedded.proofs.orchestrator_exports.tufayon_create.Goals as goal

pub returns : goal.returns
returns c = asked-read (AsksCreate c.args.name.now c.args.required c.args.limit c.args.capabilities.now) c.create_of-command.result c.args.orchestrator.now.held.embedded c.ask_handle.new.orchestrator.held.embedded _ _ _ _ _ c.create_of-command.ensures.asked c.create_of-command.ensures.none c.ask_handle.ensures
