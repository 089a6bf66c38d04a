-- It is beside each that is left exactly where it is beside each.
use Rattle.std.proofs.Common.{◌≡◌, drop}
use Rattle.std.specs.List.{list_all}
use Rattle.csi_controller.specs.Private.SoundRow.{are_beside}
use Rattle.csi_controller.proofs.sound_row.is_beside_each.Given as goal

abbrev pub invariant-loop-other : goal.invariant-loop-other
invariant-loop-other l = list_all (are_beside l.held) (drop l.other-index l.later) ≡ list_all (are_beside l.held) l.later
