-- The second run began with what opening again found.
use Rattle.csi_orchestration.proofs.JoinedLines.{one-run}
use Rattle.csi_orchestration.proofs.lines_runs.lines_runs_law.Goals as goal

pub returns : goal.returns
returns g c = one-run _ _
