-- The rows of volumes that aren't staged are those that don't stay.
use Rattle.std.proofs.Common.{◌∙◌}
use Rattle.std.proofs.lemmas.Result.{IfOk-weaker}
use Rattle.csi_node.specs.Model.Record.{parts}
use Rattle.csi_service.proofs.NodeRows.{gone-shown}
use Rattle.csi_service.proofs.node_service.NodePlugin.forgettable.Goals as goal

pub returns : goal.returns
returns c = IfOk-weaker c.forgettable.result _ _ (λ ids is. is ∙ gone-shown (parts c.args.self.now.rows)) c.forgettable.ensures.ids
