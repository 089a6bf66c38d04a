-- The frames before this one are spelled.
use Rattle.std.proofs.Common.{◌≡◌, take}
use Rattle.std.specs.List.{flat_map}
use Rattle.csi_frames.specs.Public.Spelling.{spelling}
use Rattle.csi_commands.proofs.running.frames_of.Given as goal

abbrev pub invariant-loop-frame : goal.invariant-loop-frame
invariant-loop-frame l = l.bytes.items ≡ flat_map spelling (take l.frame-index l.frames)
