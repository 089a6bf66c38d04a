-- A name is told by its place.
use Rattle.csi_reports.proofs.OneLine.{one-opened}
use Rattle.csi_reports.proofs.laws.opened_line_law.Goals as goal

pub returns : goal.returns
returns c = one-opened
