-- The numbers of the faults of a text. This profile's own.
use Rattle.std.specs.Prelude.{ℕ}
use Rattle.csi_types.specs.declared.text.TextFault.{TextFault}
use Rattle.csi_types.specs.declared.text.TextFault.TheVariants.{Empty, TooLong, NoMemory}

-- a fault's number
abbrev pub text_fault_number : TextFault → ℕ
text_fault_number Empty = 1
text_fault_number TooLong = 2
text_fault_number NoMemory = 3
