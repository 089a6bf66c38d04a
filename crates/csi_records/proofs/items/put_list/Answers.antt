use Rattle.std.proofs.Common.{arith}
use Rattle.std.proofs.lemmas.Grind.{common_steps}
use Rattle.csi_records.proofs.items.put_list.Goals as goal

pub returns : goal.returns
returns g c = record { written = grind (arith, common_steps); fits = grind (arith, common_steps) }
