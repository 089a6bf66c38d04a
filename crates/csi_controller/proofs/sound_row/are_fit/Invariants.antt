-- What is left is fit exactly where the whole list is.
use Rattle.std.proofs.Common.{◌≡◌, drop}
use Rattle.csi_controller.specs.Private.SoundRow.{are_fit}
use Rattle.csi_controller.proofs.sound_row.are_fit.Given as goal

abbrev pub invariant-loop-place : goal.invariant-loop-place
invariant-loop-place l = are_fit l.capabilities (drop l.place l.holdings) ≡ are_fit l.capabilities l.holdings
