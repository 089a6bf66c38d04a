-- Access modes by their numbers in CSI's spec.md, "CreateVolume". 0, UNKNOWN, is the number of no mode.
use Rattle.std.specs.Prelude.{ℕ, zero, suc, Option, Some, None}
use Rattle.csi_types.specs.declared.mode.Mode.{Mode}
use Rattle.csi_types.specs.declared.mode.Mode.TheVariants.{SingleNodeWriter, SingleNodeReaderOnly, MultiNodeReaderOnly, MultiNodeSingleWriter, MultiNodeMultiWriter, SingleNodeSingleWriter, SingleNodeMultiWriter}

-- the mode of a number, if it has one
abbrev pub mode_from_number : ℕ → Option Mode
mode_from_number zero = None
mode_from_number (suc zero) = Some SingleNodeWriter
mode_from_number (suc (suc zero)) = Some SingleNodeReaderOnly
mode_from_number (suc (suc (suc zero))) = Some MultiNodeReaderOnly
mode_from_number (suc (suc (suc (suc zero)))) = Some MultiNodeSingleWriter
mode_from_number (suc (suc (suc (suc (suc zero))))) = Some MultiNodeMultiWriter
mode_from_number (suc (suc (suc (suc (suc (suc zero)))))) = Some SingleNodeSingleWriter
mode_from_number (suc (suc (suc (suc (suc (suc (suc zero))))))) = Some SingleNodeMultiWriter
mode_from_number (suc (suc (suc (suc (suc (suc (suc (suc n)))))))) = None
