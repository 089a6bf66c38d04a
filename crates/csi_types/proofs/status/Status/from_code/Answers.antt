use Rattle.std.proofs.Common.{rules}
use Rattle.csi_types.proofs.status.Status.from_code.Goals as goal

pub returns-in_default : goal.returns-in_default
returns-in_default c = search rules
