-- None of those before is in a new mode.
use Rattle.std.proofs.Common.{◌≡◌, false, take}
use Rattle.csi_frames.specs.Public.Spelling.{has_new_mode}
use Rattle.csi_frames.proofs.encoding.has_new_mode.Given as goal

abbrev pub invariant-loop-one : goal.invariant-loop-one
invariant-loop-one l = has_new_mode (take l.one-index l.capabilities) ≡ false
