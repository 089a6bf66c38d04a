use Rattle.std.proofs.Common.{rules}
use Rattle.csi_world.proofs.world.World.frame.Goals as goal

pub returns-clause-value : goal.returns-clause-value
returns-clause-value c = search rules

pub returns-clause-world : goal.returns-clause-world
returns-clause-world c = search rules
