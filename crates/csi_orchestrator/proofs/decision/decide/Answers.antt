use Rattle.std.proofs.Common.{rules}
use Rattle.csi_orchestrator.proofs.decision.decide.Goals as goal

pub returns-in-Create : goal.returns-in-Create
returns-in-Create c = search rules

pub returns-in-Use : goal.returns-in-Use
returns-in-Use c = search rules

pub returns-in-Stop : goal.returns-in-Stop
returns-in-Stop c = search rules

pub returns-in-Delete : goal.returns-in-Delete
returns-in-Delete c = search rules
