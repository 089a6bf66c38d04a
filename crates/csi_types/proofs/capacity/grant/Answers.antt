use Rattle.std.proofs.Common.{rules}
use Rattle.csi_types.proofs.capacity.grant.Goals as goal

pub returns : goal.returns
returns c = search rules
