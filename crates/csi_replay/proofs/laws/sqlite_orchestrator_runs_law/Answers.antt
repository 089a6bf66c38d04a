-- It is the law of a store that is one in SQLite.
use Rattle.csi_replay.proofs.laws.sqlite_orchestrator_runs_law.Goals as goal

pub returns : goal.returns
returns g c = c.orchestrator_runs_law.ensures
