use Rattle.std.proofs.Common.{rules}
use Rattle.csi_world.proofs.plugins.controller_of_record.Goals as goal

pub returns : goal.returns
returns c = search rules
