use Rattle.std.proofs.Common.{◌∙◌, sym, subst, ap}
use Rattle.csi_types.specs.Public.Lent.{lent_call}
use Rattle.csi_fence.specs.Model.Fenced.{Fenced}
use Rattle.csi_fence.proofs.LetThrough.{is_answered}
use Rattle.csi_node.specs.Model.Fenced.{node_at}
use Rattle.csi_node.specs.Model.Record.{Shows}
use Rattle.csi_node.specs.Model.State.{NodeState}
use Rattle.csi_node.proofs.CopiedRows.{shows-copy}
use Rattle.csi_node.proofs.node.Node.answer.Goals as goal

pub returns-in-Ok-clause-reply : goal.returns-in-Ok-clause-reply
returns-in-Ok-clause-reply c = λ state shows allowed fit.
    let node = c.args.self.now.id in
    sym (ap (λ (f : Fenced NodeState). f.reply) (is_answered (node_at node) state c.args.number (lent_call c.args.call.now)) ∙ (c.in-Ok.ensures.ok.gives state shows).reply)

pub returns-in-Ok-clause-state : goal.returns-in-Ok-clause-state
returns-in-Ok-clause-state c = λ state shows allowed fit.
    let node = c.args.self.now.id in
    subst (λ (f : Fenced NodeState). Shows c.answer_own.new.self f.state) (sym (is_answered (node_at node) state c.args.number (lent_call c.args.call.now)))
    (c.in-Ok.ensures.ok.gives state shows).shows

pub returns-in-Err-clause-err : goal.returns-in-Err-clause-err
returns-in-Err-clause-err c = λ state shows. shows-copy c.args.self.now c.answer_own.new.self state shows c.in-Err.ensures.err c.in-Err.ensures.err_session
