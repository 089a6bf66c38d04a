-- By the law of two runs, of the first two and of the last two; and of the first and the last, where the second was hindered.
use Rattle.csi_plugins.proofs.PluginRuns.{three-by-two}
use Rattle.csi_plugins.proofs.joined.three_runs_law.Goals as goal

pub returns : goal.returns
returns g c = three-by-two _ _ _ c.runs_law.ensures c.runs_law-2.ensures c.runs_law-3.ensures
