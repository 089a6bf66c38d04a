use Rattle.std.proofs.Common.{rules}
use Rattle.csi_orchestrator.proofs.next_call.is_given_up.Goals as goal

pub returns-then-is_forward : goal.returns-then-is_forward
returns-then-is_forward c = search rules
