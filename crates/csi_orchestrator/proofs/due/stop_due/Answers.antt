use Rattle.std.proofs.Common.{rules}
use Rattle.csi_orchestrator.proofs.due.stop_due.Goals as goal

pub returns-then-not-is_no-3 : goal.returns-then-not-is_no-3
returns-then-not-is_no-3 c = search rules

pub returns : goal.returns
returns c = search rules
