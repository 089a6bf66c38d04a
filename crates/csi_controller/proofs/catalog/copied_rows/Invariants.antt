-- The copies of the first rows.
use Rattle.std.specs.Prelude.{take}
use Rattle.csi_controller.specs.Public.Views.{AreSameRows}
use Rattle.csi_controller.proofs.catalog.copied_rows.Given as goal

abbrev pub invariant-loop-row : goal.invariant-loop-row
invariant-loop-row l = AreSameRows (take l.row-index l.rows) l.copies.items
