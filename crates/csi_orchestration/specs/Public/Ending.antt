-- How an orchestrator's process ends, by what its store and serving answered. This profile's own.
use Rattle.std.specs.Prelude.{◌≡◌, ℕ, Result, Ok, Err}
use Rattle.csi_streams.specs.declared.ending.Ending.{Ending}
use Rattle.csi_streams.specs.declared.ending.Ending.TheVariants as endings
use Rattle.csi_stores.specs.declared.keep.KeepFault.{KeepFault}
use Rattle.csi_stores.specs.declared.keep.KeepFault.TheVariants.{Device, NoMemory, BadRecord, Full}
use Rattle.csi_service.specs.declared.orchestrator_unopened.OrchestratorUnopened.{OrchestratorUnopened}
use Rattle.csi_service.specs.declared.orchestrator_unopened.OrchestratorUnopened.TheVariants.{Keep, BadNodes, NumbersSpent, NodeInUse}
use Rattle.csi_orchestration.specs.declared.lines_serving.fault.ServedLines.{ServedLines}
use Rattle.csi_orchestration.specs.declared.lines_serving.fault.LinesServeFault.{LinesServeFault}
use Rattle.csi_orchestration.specs.declared.lines_serving.fault.LinesServeFaultKind.{LinesServeFaultKind}
use Rattle.csi_orchestration.specs.declared.lines_serving.fault.LinesServeFaultKind.TheVariants as kinds

-- by what the store answered
abbrev pub ending_of_store : KeepFault → Ending
ending_of_store Device = endings.Device
ending_of_store NoMemory = endings.Memory
ending_of_store (BadRecord place) = endings.RecordFault place
ending_of_store Full = endings.Device

-- how a process may end whose store has no list of parts, but at this place what is none
abbrev pub EndsAt : ℕ → Ending → Type 0
EndsAt place endings.Device = Unit {0}
EndsAt place endings.Memory = Unit {0}
EndsAt place (endings.RecordFault at) = at ≡ place
EndsAt place _ = ⊥

-- by why the orchestrator isn't opened
abbrev pub ending_unopened : OrchestratorUnopened → Ending
ending_unopened (Keep fault) = ending_of_store fault
ending_unopened BadNodes = endings.ConfigRefused
ending_unopened NumbersSpent = endings.NumbersSpent
ending_unopened NodeInUse = endings.NodeInUse

-- by why serving stopped
abbrev pub ending_of_kind : LinesServeFaultKind → Ending
ending_of_kind kinds.Input = endings.Device
ending_of_kind kinds.Output = endings.Device
ending_of_kind (kinds.Long number) = endings.LineFault number
ending_of_kind (kinds.Keep fault) = ending_of_store fault
ending_of_kind kinds.NoMemory = endings.Memory
ending_of_kind kinds.OlderStore = endings.OlderStore
ending_of_kind kinds.Endless = endings.Endless

-- by what serving answered
abbrev pub ending_of_serving : Result ServedLines LinesServeFault → Ending
ending_of_serving (Ok served) = endings.Done
ending_of_serving (Err fault) = ending_of_kind fault.kind
