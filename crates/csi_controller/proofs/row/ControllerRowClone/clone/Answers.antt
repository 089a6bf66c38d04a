use Rattle.std.proofs.Common.{rules}
use Rattle.csi_controller.proofs.row.ControllerRowClone.clone.Goals as goal

pub returns : goal.returns
returns c = search rules
