-- Access modes by their numbers in CSI's spec.md, "CreateVolume". 0, UNKNOWN, is the number of no mode.
use Rattle.std.specs.Prelude.{ℕ}
use Rattle.csi_types.specs.declared.mode.Mode.{Mode}
use Rattle.csi_types.specs.declared.mode.Mode.TheVariants.{SingleNodeWriter, SingleNodeReaderOnly, MultiNodeReaderOnly, MultiNodeSingleWriter, MultiNodeMultiWriter, SingleNodeSingleWriter, SingleNodeMultiWriter}

-- a mode's number
abbrev pub mode_number : Mode → ℕ
mode_number SingleNodeWriter = 1
mode_number SingleNodeReaderOnly = 2
mode_number MultiNodeReaderOnly = 3
mode_number MultiNodeSingleWriter = 4
mode_number MultiNodeMultiWriter = 5
mode_number SingleNodeSingleWriter = 6
mode_number SingleNodeMultiWriter = 7
