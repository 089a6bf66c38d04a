use Rattle.std.proofs.Common.{arith}
use Rattle.std.proofs.lemmas.Grind.{common_steps}
use Rattle.csi_frames.proofs.splitter.compact.Goals as goal

pub returns-then-left-start-clause-same : goal.returns-then-left-start-clause-same
returns-then-left-start-clause-same c = grind (arith, common_steps)
