use Rattle.std.proofs.Common.{rules}
use Rattle.csi_orchestrator.proofs.replies.is_replied.Goals as goal

pub returns-then-is_for : goal.returns-then-is_for
returns-then-is_for c = search rules
