-- By the rules of a record.
use Rattle.csi_node.proofs.SafeRows.{right-from}
use Rattle.csi_node.proofs.laws.publishing_law.Goals as goal

pub returns : goal.returns
returns c state shows = right-from c.args.node.now.rows state c.assert_rules.ensures.rules shows.shows
