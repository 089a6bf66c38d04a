use Rattle.std.proofs.Common.{rules}
use Rattle.csi_orchestrator.proofs.step.time_out.Goals as goal

pub returns-then-is_given_up : goal.returns-then-is_given_up
returns-then-is_given_up c = search rules

pub returns-else-is_given_up : goal.returns-else-is_given_up
returns-else-is_given_up c = search rules
