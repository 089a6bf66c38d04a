-- It is the law of a store that is one in SQLite.
use Rattle.csi_replay.proofs.laws.sqlite_runs_law.Goals as goal

pub returns : goal.returns
returns g c = c.runs_law.ensures
