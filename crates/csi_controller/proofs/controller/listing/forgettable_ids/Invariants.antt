-- The ids so far.
use Rattle.std.specs.Prelude.{◌≡◌, filter, map, not, take}
use Rattle.csi_controller.specs.declared.row.ControllerRow.{ControllerRow}
use Rattle.csi_controller.proofs.controller.listing.forgettable_ids.Given as goal

abbrev pub invariant-loop-row : goal.invariant-loop-row
invariant-loop-row l = l.ids.items ≡ map (λ (row : ControllerRow). row.id) (filter (λ (row : ControllerRow). not row.live) (take l.row-index l.rows))
