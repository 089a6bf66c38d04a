-- The rows before this one are lent.
use Rattle.std.proofs.Common.{◌≡◌, map, take}
use Rattle.std.specs.Borrow.{Bor}
use Rattle.csi_orchestrator.specs.declared.row.Row.{Row}
use Rattle.csi_reports.proofs.by_name.lent_rows.Given as goal

abbrev pub invariant-loop-row : goal.invariant-loop-row
invariant-loop-row l = map (λ (row : Bor Row). row.now) l.lent.items ≡ take l.row-index l.rows
