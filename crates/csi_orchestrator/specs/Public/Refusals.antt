-- Each refusal of an orchestrator has a number and a name. This profile's own.
use Rattle.std.specs.Prelude.{ℕ, List, codes}
use Rattle.csi_orchestrator.specs.declared.fault.OrchFault.{OrchFault}
use Rattle.csi_orchestrator.specs.declared.fault.OrchFault.TheVariants as faults

-- a refusal's number
abbrev pub refusal_number : OrchFault → ℕ
refusal_number faults.NameUsed = 1
refusal_number faults.NoSuchVolume = 2
refusal_number faults.NotCreated = 3
refusal_number faults.Busy = 4
refusal_number faults.NoSuchNode = 5
refusal_number faults.NotCapable = 6
refusal_number faults.HeldElsewhere = 7
refusal_number faults.WriterElsewhere = 8
refusal_number faults.HeldOtherwise = 9
refusal_number faults.TargetTaken = 10
refusal_number faults.NoSuchTarget = 11
refusal_number faults.InUse = 12
refusal_number faults.Idle = 13
refusal_number faults.NumbersSpent = 14
refusal_number faults.Full = 15
refusal_number faults.NoMemory = 16
refusal_number faults.NodeInUse = 17

-- a refusal's name
abbrev pub fault_name : OrchFault → List ℕ
fault_name faults.NameUsed = codes "NameUsed"
fault_name faults.NoSuchVolume = codes "NoSuchVolume"
fault_name faults.NotCreated = codes "NotCreated"
fault_name faults.Busy = codes "Busy"
fault_name faults.NoSuchNode = codes "NoSuchNode"
fault_name faults.NotCapable = codes "NotCapable"
fault_name faults.HeldElsewhere = codes "HeldElsewhere"
fault_name faults.WriterElsewhere = codes "WriterElsewhere"
fault_name faults.HeldOtherwise = codes "HeldOtherwise"
fault_name faults.TargetTaken = codes "TargetTaken"
fault_name faults.NoSuchTarget = codes "NoSuchTarget"
fault_name faults.InUse = codes "InUse"
fault_name faults.Idle = codes "Idle"
fault_name faults.NumbersSpent = codes "NumbersSpent"
fault_name faults.Full = codes "Full"
fault_name faults.NoMemory = codes "NoMemory"
fault_name faults.NodeInUse = codes "NodeInUse"
