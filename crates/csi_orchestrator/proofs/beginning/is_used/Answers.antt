-- This row is so.
use Rattle.csi_orchestrator.proofs.Words.{sym, not, Attached, RowShown, mark_of, is_no, row_shown}
use Rattle.csi_orchestrator.proofs.EntriesShown.{one-here}
use Rattle.csi_orchestrator.proofs.beginning.is_used.Goals as goal

pub returns-then-is_attached_at : goal.returns-then-is_attached_at
returns-then-is_attached_at c =
    sym (one-here row_shown (λ (row : RowShown). not (is_no (mark_of (Attached row.name c.args.node.now) row))) c.args.rows.now c.loop-row.row-index c.row-item.result c.loop-row-test.true c.row-item.is (cc))
