-- What is left is fit exactly where the whole list is.
use Rattle.std.proofs.Common.{◌≡◌, drop}
use Rattle.csi_node.specs.Private.SoundRow.{are_fit}
use Rattle.csi_node.proofs.sound_row.are_fit.Given as goal

-- the targets are fit where those still to be looked at are
abbrev pub invariant-loop-place : goal.invariant-loop-place
invariant-loop-place l = are_fit (drop l.place l.targets) ≡ are_fit l.targets
