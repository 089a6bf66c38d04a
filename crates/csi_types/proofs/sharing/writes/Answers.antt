use Rattle.std.proofs.Common.{rules}
use Rattle.csi_types.proofs.sharing.writes.Goals as goal

pub returns-in-SingleNodeWriter : goal.returns-in-SingleNodeWriter
returns-in-SingleNodeWriter c = search rules
