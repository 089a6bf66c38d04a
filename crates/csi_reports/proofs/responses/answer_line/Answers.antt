-- The text is that of the answer's tokens.
use Rattle.csi_reports.specs.Public.Responses.{answer_entry, goal_now, sending_shown}
use Rattle.csi_reports.proofs.WrittenSteps.{alone}
use Rattle.csi_reports.proofs.responses.answer_line.Goals as goal

pub returns : goal.returns
returns c =
    c.into_string.ensures (answer_entry c.args.name.now (goal_now c.args.row) c.args.outcome (sending_shown c.args.sending))
    (alone _ _ _ c.new-out.ensures c.in_ok-write_answer.ensures)
