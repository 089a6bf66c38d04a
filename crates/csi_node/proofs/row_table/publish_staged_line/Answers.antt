use Rattle.std.proofs.Common.{rules}
use Rattle.csi_node.proofs.row_table.publish_staged_line.Goals as goal

pub returns-in-Some : goal.returns-in-Some
returns-in-Some c = search rules
