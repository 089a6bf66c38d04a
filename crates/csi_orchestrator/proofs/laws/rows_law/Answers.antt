-- By what its type keeps.
use Rattle.csi_orchestrator.proofs.RowsRestorable.{steady-restorable}
use Rattle.csi_orchestrator.proofs.laws.rows_law.Goals as goal

pub returns : goal.returns
returns c = steady-restorable c.args.orchestrator.now c.session-session.ensures.kept
