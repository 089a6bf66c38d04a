-- What was counted, and what is left.
use Rattle.std.proofs.Common.{◌≡◌, ◌+◌, drop}
use Rattle.csi_reports.specs.Public.Rebuildings.{attachments_of}
use Rattle.csi_reports.proofs.rebuildings.attachments.Given as goal

abbrev pub invariant-loop-row : goal.invariant-loop-row
invariant-loop-row l = l.count + attachments_of (drop l.row-index l.rows) ≡ attachments_of l.rows
