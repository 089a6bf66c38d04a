-- The rows of a record keep the rules of rows behind the fence.
use Rattle.std.proofs.Common.{List, ℕ, ap, subst, sym}
use Rattle.csi_node.specs.declared.row.NodeRow.{NodeRow}
use Rattle.csi_node.specs.Public.Plan.{AreNodeRows}
use Rattle.csi_node.proofs.RecordRules.{node-rows}
use Rattle.csi_node.proofs.record.NodeRecord.into_rows.Goals as goal

pub returns-clause-kept : goal.returns-clause-kept
returns-clause-kept c =
    let rows = c.self.inside.rows.items in
    let same = ap (λ (l : _). l.items) c.new.ensures.rows in
    let kept = node-rows c.self.inside.session rows c.new.result.empty c.self.invariant.0 c.self.invariant.1 c.new.ensures.empty in
    subst (λ (session : ℕ). AreNodeRows session c.new.result.rows.items c.new.result.empty) (sym c.new.ensures.session)
    (subst (λ (l : List NodeRow). AreNodeRows c.self.inside.session l c.new.result.empty) (sym same) kept)
