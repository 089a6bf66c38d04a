-- Those of the first live volumes were added.
use Rattle.std.proofs.Common.{◌≡◌, take, map, filter}
use Rattle.csi_controller.specs.declared.row.ControllerRow.{ControllerRow}
use Rattle.csi_orchestrator.specs.Public.Shown.{row_shown}
use Rattle.csi_recovery.specs.Private.Walks.{row_from}
use Rattle.csi_recovery.proofs.rows.rows.Given as goal

abbrev pub invariant-loop-volume : goal.invariant-loop-volume
invariant-loop-volume l = map row_shown l.made.items ≡ map (row_from l.given) (filter (λ (volume : ControllerRow). volume.live) (take l.volume-index l.volumes))
