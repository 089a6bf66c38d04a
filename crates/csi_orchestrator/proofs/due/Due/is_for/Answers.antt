use Rattle.std.proofs.Common.{rules}
use Rattle.csi_orchestrator.proofs.due.Due.is_for.Goals as goal

pub returns-in-Some-Node : goal.returns-in-Some-Node
returns-in-Some-Node c = search rules
