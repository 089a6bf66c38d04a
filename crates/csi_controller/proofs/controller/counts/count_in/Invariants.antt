-- How many of the first rows are of volumes that are held at the node.
use Rattle.std.proofs.Common.{◌≡◌, take}
use Rattle.std.specs.Prelude.{count_by}
use Rattle.csi_controller.specs.declared.row.ControllerRow.{ControllerRow}
use Rattle.csi_controller.specs.Public.Counts.{is_held}
use Rattle.csi_controller.specs.Public.OneRow.{row_shown}
use Rattle.csi_controller.proofs.controller.counts.count_in.Given as goal

abbrev pub invariant-loop-row : goal.invariant-loop-row
invariant-loop-row l = l.count ≡ count_by (λ (row : ControllerRow). is_held l.node (row_shown row)) (take l.row-index l.rows)
