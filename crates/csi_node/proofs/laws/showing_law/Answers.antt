-- By the rules of a record.
use Rattle.csi_node.proofs.ShowingLaw.{shows-a_state}
use Rattle.csi_node.proofs.laws.showing_law.Goals as goal

pub returns : goal.returns
returns c = shows-a_state c.args.node.now c.assert_rules.ensures.rules
