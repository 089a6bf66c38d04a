use Rattle.std.proofs.Common.{rules}
use Rattle.csi_node.proofs.node.Node.from_record.Goals as goal

pub returns : goal.returns
returns c = search rules
