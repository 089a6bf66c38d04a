-- What a record that can't be read is to a store. This profile's own.
use Rattle.csi_stores.specs.declared.keep.KeepFault.{KeepFault}
use Rattle.csi_stores.specs.declared.keep.KeepFault.TheVariants.{NoMemory, BadRecord}
use Rattle.csi_records.specs.declared.fault.RecordStop.{RecordStop}
use Rattle.csi_records.specs.declared.fault.RecordStop.TheVariants as stops

-- the store's fault
abbrev pub fault_of_stop : RecordStop → KeepFault
fault_of_stop (stops.BadRecord place) = BadRecord place
fault_of_stop stops.NoMemory = NoMemory
