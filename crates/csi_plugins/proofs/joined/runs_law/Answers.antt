-- By the law of any two sights.
use Rattle.csi_plugins.proofs.PluginRuns.{two-runs}
use Rattle.csi_plugins.proofs.joined.runs_law.Goals as goal

pub returns : goal.returns
returns g c = two-runs _ _ c.record_laws.ensures
