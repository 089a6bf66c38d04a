use Rattle.csi_node.proofs.RecordRules.{few-rows}
use Rattle.csi_node.proofs.node.Node.row_count.Goals as goal

pub returns-clause-few : goal.returns-clause-few
returns-clause-few c =
    rw c.rows.ensures.value (few-rows c.args.self.now.session c.args.self.now.rows c.rows.ensures.current)
