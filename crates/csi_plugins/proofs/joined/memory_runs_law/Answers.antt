-- It is the law of a store that is one in memory.
use Rattle.csi_plugins.proofs.joined.memory_runs_law.Goals as goal

pub returns : goal.returns
returns g c = c.runs_law.ensures
