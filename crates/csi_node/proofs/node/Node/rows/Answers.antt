use Rattle.std.proofs.Common.{subst}
use Rattle.csi_node.specs.Model.Record.{NodeParts, parts}
use Rattle.csi_node.specs.Public.Record.{AreSoundRows, IsCurrent}
use Rattle.csi_node.proofs.RecordRules.{record-current, record-rules}
use Rattle.csi_node.proofs.node.Node.rows.Goals as goal

pub returns-clause-rules : goal.returns-clause-rules
returns-clause-rules c =
    let own = c.self.inside.rows in
    subst (λ (record_ : NodeParts). AreSoundRows (parts record_.rows)) c.self.view_is (record-rules own.session own.rows.items own.empty c.self.invariant)

pub returns-clause-current : goal.returns-clause-current
returns-clause-current c =
    let own = c.self.inside.rows in
    subst (λ (record_ : NodeParts). IsCurrent record_.session (parts record_.rows)) c.self.view_is (record-current own.session own.rows.items own.empty c.self.invariant)
