-- The numbers of the faults, which programs print. This profile's own.
use Rattle.std.specs.Prelude.{ℕ}
use Rattle.csi_frames.specs.declared.fault.FaultKind.{FaultKind}
use Rattle.csi_frames.specs.declared.fault.FaultKind.TheVariants.{Short, TooLong, BadVersion, BadKind, BadParty, BadText, BadMode, BadAccess, BadFlag, BadStatus, BadId, BadCount, LengthDiffers, NoMemory}

-- a fault's number
abbrev pub frame_fault_number : FaultKind → ℕ
frame_fault_number Short = 1
frame_fault_number TooLong = 2
frame_fault_number BadVersion = 3
frame_fault_number BadKind = 4
frame_fault_number BadParty = 5
frame_fault_number BadText = 6
frame_fault_number BadMode = 7
frame_fault_number BadAccess = 8
frame_fault_number BadFlag = 9
frame_fault_number BadStatus = 10
frame_fault_number BadId = 11
frame_fault_number BadCount = 12
frame_fault_number LengthDiffers = 13
frame_fault_number NoMemory = 14
