use Rattle.std.proofs.Common.{rules}
use Rattle.csi_world.proofs.auditing.staging.is_held_as.Goals as goal

pub returns-then-eq : goal.returns-then-eq
returns-then-eq c = search rules
