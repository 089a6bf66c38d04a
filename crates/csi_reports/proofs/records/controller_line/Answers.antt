-- The text is that of the value's tokens.
use Rattle.csi_reports.specs.Public.Records.{controller_entry}
use Rattle.csi_reports.proofs.WrittenSteps.{alone}
use Rattle.csi_reports.proofs.records.controller_line.Goals as goal

pub returns : goal.returns
returns c = c.into_string.ensures (controller_entry c.args.kept.now) (alone _ _ _ c.new-out.ensures c.in_ok-write.ensures)
