use Rattle.std.proofs.Common.{rules}
use Rattle.csi_orchestrator.proofs.next_call.due_failed.Goals as goal

pub returns-in-Some-Use : goal.returns-in-Some-Use
returns-in-Some-Use c = search rules
