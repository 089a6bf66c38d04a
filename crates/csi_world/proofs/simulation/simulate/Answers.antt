use Rattle.std.proofs.Common.{rules}
use Rattle.csi_world.proofs.simulation.simulate.Goals as goal

pub returns-in-Ok-clause-run : goal.returns-in-Ok-clause-run
returns-in-Ok-clause-run c = search rules
