use Rattle.std.proofs.Common.{rules}
use Rattle.csi_world.proofs.world.World.sent.Goals as goal

pub returns : goal.returns
returns c = search rules
