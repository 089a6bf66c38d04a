-- The rows of deleted volumes are those that don't stay.
use Rattle.std.proofs.Common.{◌∙◌}
use Rattle.std.proofs.lemmas.Result.{IfOk-weaker}
use Rattle.csi_service.proofs.ControllerRows.{gone-shown}
use Rattle.csi_service.proofs.controller_service.ControllerPlugin.forgettable.Goals as goal

pub returns : goal.returns
returns c = IfOk-weaker c.forgettable.result _ _ (λ ids is. is ∙ gone-shown c.args.self.now) c.forgettable.ensures.ids
