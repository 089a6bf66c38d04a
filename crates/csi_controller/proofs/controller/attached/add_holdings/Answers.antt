use Rattle.std.proofs.Common.{arith}
use Rattle.std.proofs.lemmas.Grind.{common_steps}
use Rattle.csi_controller.proofs.controller.attached.add_holdings.Goals as goal

pub loop-held-preserved : goal.loop-held-preserved
loop-held-preserved c = grind (arith, common_steps)
