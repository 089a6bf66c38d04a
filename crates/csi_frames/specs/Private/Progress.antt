-- What a splitter shows of its buffer and of how far it has come there.
use Rattle.std.specs.Prelude.{Bool, true, false}
use Rattle.csi_frames.specs.declared.fault.FaultKind.{FaultKind}
use Rattle.csi_frames.specs.declared.fault.FaultKind.TheVariants.{Short}

-- the fault is Short
abbrev pub is_short : FaultKind → Bool
is_short Short = true
is_short _ = false
