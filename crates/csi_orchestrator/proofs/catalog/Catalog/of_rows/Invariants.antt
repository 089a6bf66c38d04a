-- The first rows were added, and no call is noted; the others are left.
use Rattle.csi_orchestrator.proofs.Words.{◌≡◌, ◌++◌, length, into_iter_items, into_iter_len, rows_of, IsIndexed}
use Rattle.csi_orchestrator.proofs.Words.{AreUpTo}
use Rattle.csi_orchestrator.proofs.catalog.Catalog.of_rows.Given as goal

abbrev pub invariant-loop-row : goal.invariant-loop-row
invariant-loop-row l = (rows_of l.catalog ++ into_iter_items l.row-iterator ≡ l.fn.rows.items) × IsIndexed l.catalog × AreUpTo 0 l.catalog × (into_iter_len l.row-iterator ≡ length (into_iter_items l.row-iterator))
