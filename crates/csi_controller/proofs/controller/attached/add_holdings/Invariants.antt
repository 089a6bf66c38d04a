-- The holdings of the row's first ones were added.
use Rattle.std.proofs.Common.{◌≡◌, ◌++◌, map, take}
use Rattle.csi_controller.specs.Public.Core.{volume_holding}
use Rattle.csi_controller.proofs.controller.attached.add_holdings.Given as goal

abbrev pub invariant-loop-held : goal.invariant-loop-held
invariant-loop-held l = l.all.items ≡ l.fn.all.items ++ map (volume_holding l.row.id) (take l.held-index l.row.holdings.items)
