-- The text is that of the loss's tokens.
use Rattle.csi_reports.specs.Public.Responses.{loss_entry}
use Rattle.csi_reports.proofs.WrittenSteps.{alone}
use Rattle.csi_reports.proofs.responses.loss_line.Goals as goal

pub returns : goal.returns
returns c = c.into_string.ensures (loss_entry c.args.node.now c.args.outcome c.args.session) (alone _ _ _ c.new-out.ensures c.in_ok-write_loss.ensures)
