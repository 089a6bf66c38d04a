-- The bytes before this one are written.
use Rattle.std.proofs.Common.{take}
use Rattle.std.specs.List.{flat_map}
use Rattle.std.specs.Fmt.{HasWritten, IsPlainFormatter}
use Rattle.csi_streams.specs.Public.Shown.{shown_byte}
use Rattle.csi_streams.proofs.shown.QuotedDisplay.fmt.Given as goal

abbrev pub invariant-loop-byte : goal.invariant-loop-byte
invariant-loop-byte g l = IsPlainFormatter l.initial.f → HasWritten g.W.Write.write_str_gives l.initial.f (flat_map shown_byte (take l.byte-index l.bytes)) l.f
