use Rattle.std.proofs.Common.{arith}
use Rattle.std.proofs.lemmas.Grind.{common_steps}
use Rattle.csi_orchestrator.proofs.decision.first_fault.Goals as goal

pub returns-then-rows-ge-MAX_ROWS : goal.returns-then-rows-ge-MAX_ROWS
returns-then-rows-ge-MAX_ROWS c = grind (arith, common_steps)
