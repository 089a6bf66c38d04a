-- The exit status of each ending, and how a call of the system that failed ends. This profile's own.
use Rattle.std.specs.Prelude.{ℕ}
use Rattle.std.specs.declared.io.ErrorKind.{ErrorKind}
use Rattle.std.specs.declared.io.ErrorKind.TheVariants.{OutOfMemory}
use Rattle.csi_streams.specs.declared.ending.Ending.{Ending}
use Rattle.csi_streams.specs.declared.ending.Ending.TheVariants.{Done, FrameFault, ScheduleFault, NotUtf8, ConfigRefused, RecordFault, StoreFault, StoresDisagree, StoreNotNew, IdTaken, EarlierSession, LineFault, NumbersSpent, NodeInUse, OlderStore, Usage, Device, StoreNotOpened, Endless, Memory}

-- 1 for input that is refused, 2 for the command line, 3 for a device or memory
abbrev pub exit_status : Ending → ℕ
exit_status Done = 0
exit_status (FrameFault kind place) = 1
exit_status (ScheduleFault fault) = 1
exit_status NotUtf8 = 1
exit_status ConfigRefused = 1
exit_status (RecordFault place) = 1
exit_status (StoreFault place store) = 1
exit_status (StoresDisagree store) = 1
exit_status StoreNotNew = 1
exit_status IdTaken = 1
exit_status EarlierSession = 1
exit_status (LineFault number) = 1
exit_status NumbersSpent = 1
exit_status NodeInUse = 1
exit_status OlderStore = 1
exit_status Usage = 2
exit_status Device = 3
exit_status StoreNotOpened = 3
exit_status Endless = 3
exit_status Memory = 3

-- where a call of the system fails so
abbrev pub ending_unless_memory : ErrorKind → Ending → Ending
ending_unless_memory OutOfMemory other = Memory
ending_unless_memory _ other = other
