use Rattle.csi_node.proofs.CopiedRows.{shows-copy, err_holds}
use Rattle.csi_node.proofs.node.Node.step.Goals as goal

pub returns-in_err-answer-clause-err : goal.returns-in_err-answer-clause-err
returns-in_err-answer-clause-err c = λ state shows.
    err_holds c.from_residual-in_err-answer.result
    (shows-copy c.args.self.now c.answer_own.new.self state shows c.in_err-answer.ensures.err c.in_err-answer.ensures.err_session)
