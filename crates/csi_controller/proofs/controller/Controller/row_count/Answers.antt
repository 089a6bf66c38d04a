-- Each row is of a live volume, or of the session.
use Rattle.std.proofs.Common.{◌∙◌, ap, length, arith}
use Rattle.csi_controller.specs.Model.Core.{ControllerParts}
use Rattle.csi_controller.proofs.Sessions.{few-rows}
use Rattle.csi_controller.proofs.controller.Controller.row_count.Goals as goal

pub returns-clause-few : goal.returns-clause-few
returns-clause-few c =
    let parts = c.args.self.now in
    let few = few-rows parts.session parts.rows c.current_law.ensures in
    let same = ap length c.as_slice.ensures.value ∙ ap (λ (k : ControllerParts). length k.rows) c.self.view_is in
    omega (arith, few, same)
