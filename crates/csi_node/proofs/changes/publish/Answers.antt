use Rattle.std.proofs.Common.{rules}
use Rattle.csi_node.proofs.changes.publish.Goals as goal

pub returns-clause-ok : goal.returns-clause-ok
returns-clause-ok c = search rules
