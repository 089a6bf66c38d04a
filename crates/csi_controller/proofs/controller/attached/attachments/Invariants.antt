-- Those of the first rows were added.
use Rattle.std.proofs.Common.{◌≡◌, take}
use Rattle.csi_controller.specs.Public.Views.{attached_holdings}
use Rattle.csi_controller.proofs.controller.attached.attachments.Given as goal

abbrev pub invariant-loop-row : goal.invariant-loop-row
invariant-loop-row l = l.all.items ≡ attached_holdings (take l.row-index l.rows)
