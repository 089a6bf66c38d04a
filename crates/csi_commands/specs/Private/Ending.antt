-- How a command on the bytes of a file ends. This profile's own.
use Rattle.csi_streams.specs.declared.ending.Ending.{Ending}
use Rattle.csi_streams.specs.declared.ending.Ending.TheVariants.{FrameFault, Memory}
use Rattle.csi_streams.specs.declared.answers.SliceFault.{SliceFault}
use Rattle.csi_streams.specs.declared.answers.SliceFault.TheVariants as faults

-- how it ends by what the frames stopped at
abbrev pub ending_of_answer : SliceFault → Ending
ending_of_answer (faults.Frame kind place) = FrameFault kind place
ending_of_answer faults.NoMemory = Memory
