-- The rows of a record have different names.
use Rattle.csi_reports.proofs.OneLine.{one-line}
use Rattle.csi_reports.proofs.laws.orchestrator_line_law.Goals as goal

pub returns : goal.returns
returns c = one-line c.args.kept.now c.rows-rows.ensures.kept.names
