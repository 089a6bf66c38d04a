-- The nodes of the rows before this one are added.
use Rattle.std.proofs.Common.{◌≡◌, map, take}
use Rattle.csi_orchestrator.specs.Public.Shown.{row_shown}
use Rattle.csi_reports.specs.Public.Recoveries.{once, lost_of_rows}
use Rattle.csi_reports.proofs.recoveries.lost_in.Given as goal

abbrev pub invariant-loop-row : goal.invariant-loop-row
invariant-loop-row l = l.lost.items ≡ once (lost_of_rows (map (λ kept. kept.id) l.given) (map row_shown (take l.row-index l.rows)))
