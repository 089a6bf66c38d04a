-- What the rows answer is what the node's state does.
use Rattle.std.proofs.lemmas.Result.{IfOk-weaker}
use Rattle.csi_types.specs.Public.Lent.{lent_call}
use Rattle.csi_node.specs.Model.Record.{NodeParts}
use Rattle.csi_node.proofs.RowsMachine.{answers-call, parts-sound}
use Rattle.csi_node.proofs.node.Node.answer_own.Goals as goal

pub returns-clause-ok : goal.returns-clause-ok
returns-clause-ok c =
    let was = c.self.inside.rows in
    let is = c.answer.new.self in
    let old : NodeParts = record { id = was.table.id; session = was.session; rows = was.rows.items } in
    let new : NodeParts = record { id = is.table.id; session = is.session; rows = is.rows.items } in
    rw c.self.view_is
    at (IfOk-weaker c.answer.result _ _ (answers-call c.args.number (lent_call c.args.call.now) old new c.requires.kind (parts-sound was.session was.rows.items was.empty c.self.invariant)) c.answer.ensures.answers.ok)
