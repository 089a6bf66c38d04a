use Rattle.std.proofs.Common.{◌≡◌, map, take}
use Rattle.std.specs.Prelude.{count_by}
use Rattle.csi_fence.proofs.rows.Rows.new.Given as goal

abbrev pub invariant-loop-row : goal.invariant-loop-row
invariant-loop-row g l = l.empty ≡ count_by g.T.Table.plan.is_empty (map g.T.Table.shown (take l.row-index l.row-items))
