-- By the law of two runs: of the first two, of the last two, and of the first and the last.
use Rattle.csi_plugins.proofs.PluginRuns.{three-by-two}
use Rattle.csi_replay.proofs.laws.sqlite_three_runs_law.Goals as goal

pub returns : goal.returns
returns g c = three-by-two _ _ _ c.sqlite_runs_law.ensures c.sqlite_runs_law-2.ensures c.sqlite_runs_law-3.ensures
