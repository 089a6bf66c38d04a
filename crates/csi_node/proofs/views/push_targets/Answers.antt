-- One more target is listed.
use Rattle.std.proofs.Common.{arith}
use Rattle.std.proofs.lemmas.Grind.{common_steps}
use Rattle.csi_node.proofs.views.push_targets.Goals as goal

pub loop-target-preserved : goal.loop-target-preserved
loop-target-preserved c = grind (arith, common_steps)
