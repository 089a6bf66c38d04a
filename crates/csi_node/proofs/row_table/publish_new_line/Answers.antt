use Rattle.std.proofs.Common.{arith}
use Rattle.std.proofs.lemmas.Grind.{common_steps}
use Rattle.csi_node.proofs.row_table.publish_new_line.Goals as goal

pub returns-else-len-ge-MAX_TARGETS : goal.returns-else-len-ge-MAX_TARGETS
returns-else-len-ge-MAX_TARGETS c = grind (arith, common_steps)
