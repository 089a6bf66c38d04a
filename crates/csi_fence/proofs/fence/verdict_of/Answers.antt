use Rattle.std.proofs.Common.{rules}
use Rattle.csi_fence.proofs.fence.verdict_of.Goals as goal

pub returns-else-eq : goal.returns-else-eq
returns-else-eq c = search rules
