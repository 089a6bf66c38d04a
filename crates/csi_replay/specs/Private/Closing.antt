-- How a process ends whose store is closed. This profile's own.
use Rattle.std.specs.Prelude.{Result, Ok, Err}
use Rattle.csi_stores.specs.declared.keep.KeepFault.{KeepFault}
use Rattle.csi_stores.specs.declared.keep.KeepFault.TheVariants as fault
use Rattle.csi_streams.specs.declared.ending.Ending.{Ending}
use Rattle.csi_streams.specs.declared.ending.Ending.TheVariants.{Done, Device, Memory}

-- one that did all, by whether its log could be put back
abbrev pub ending_done : Result (Unit {0}) KeepFault → Ending
ending_done (Ok _) = Done
ending_done (Err fault.NoMemory) = Memory
ending_done (Err _) = Device

-- any: what went wrong before is told, and not how the store was closed
abbrev pub ending_closed : Ending → Result (Unit {0}) KeepFault → Ending
ending_closed Done closing = ending_done closing
ending_closed ending closing = ending
