-- How a plugin's process ends, by what its store and serving answered. This profile's own.
use Rattle.std.specs.Prelude.{◌≡◌, ℕ, Result, Ok, Err}
use Rattle.csi_streams.specs.declared.ending.Ending.{Ending}
use Rattle.csi_streams.specs.declared.ending.Ending.TheVariants as endings
use Rattle.csi_stores.specs.declared.keep.KeepFault.{KeepFault}
use Rattle.csi_stores.specs.declared.keep.KeepFault.TheVariants.{Device, NoMemory, BadRecord, Full}
use Rattle.csi_service.specs.declared.node_unopened.NodeUnopened.{NodeUnopened}
use Rattle.csi_service.specs.declared.node_unopened.NodeUnopened.TheVariants.{Keep, EarlierSession}
use Rattle.csi_service.specs.declared.serving.fault.Served.{Served}
use Rattle.csi_service.specs.declared.serving.fault.ServeFault.{ServeFault}
use Rattle.csi_service.specs.declared.serving.fault.ServeFaultKind.{ServeFaultKind}
use Rattle.csi_service.specs.declared.serving.fault.ServeFaultKind.TheVariants as kinds

-- by what the store answered
abbrev pub ending_of_store : KeepFault → Ending
ending_of_store Device = endings.Device
ending_of_store NoMemory = endings.Memory
ending_of_store (BadRecord place) = endings.RecordFault place
ending_of_store Full = endings.Device

-- by why a node isn't opened
abbrev pub ending_of_node : NodeUnopened → Ending
ending_of_node (Keep fault) = ending_of_store fault
ending_of_node EarlierSession = endings.EarlierSession

-- how a process may end whose store has no list of parts, but at this place what is none
abbrev pub EndsAt : ℕ → Ending → Type 0
EndsAt place endings.Device = Unit {0}
EndsAt place endings.Memory = Unit {0}
EndsAt place (endings.RecordFault at) = at ≡ place
EndsAt place _ = ⊥

-- where there is no store to be asked
abbrev pub ending_unopened : KeepFault → Ending
ending_unopened NoMemory = endings.Memory
ending_unopened _ = endings.StoreNotOpened

-- by why serving stopped
abbrev pub ending_of_kind : ServeFaultKind → Ending
ending_of_kind kinds.Input = endings.Device
ending_of_kind kinds.Output = endings.Device
ending_of_kind (kinds.Frame kind place) = endings.FrameFault kind place
ending_of_kind (kinds.Keep fault) = ending_of_store fault
ending_of_kind kinds.NoMemory = endings.Memory
ending_of_kind kinds.Endless = endings.Endless

-- by what serving answered
abbrev pub ending_of_serving : Result Served ServeFault → Ending
ending_of_serving (Ok served) = endings.Done
ending_of_serving (Err fault) = ending_of_kind fault.kind
