-- Why a text was not read: numbers and places of the faults. This profile's own.
use Rattle.std.specs.Prelude.{◌≡◌, ℕ, Result, Err}
use Rattle.csi_json.specs.declared.values.Flaw.{Flaw}
use Rattle.csi_json.specs.declared.values.Flaw.TheVariants.{Bad}
use Rattle.csi_json.specs.declared.values.Flaw.TheVariants as flaws
use Rattle.csi_json.specs.declared.fault.ScheduleFault.{ScheduleFault}
use Rattle.csi_json.specs.declared.fault.ScheduleFault.TheVariants.{NotJson, BadSchedule, TooMany, NoMemory}

-- where the event of a place has a flaw; 0 is the place of what is no event
abbrev pub event_fault : Flaw → ℕ → ScheduleFault
event_fault Bad place = BadSchedule place
event_fault flaws.NoMemory place = NoMemory

-- where the configuration, or the schedule itself, has a flaw
abbrev pub fault_of : Flaw → ScheduleFault
fault_of flaw = event_fault flaw 0

-- it is this fault, unless memory was refused
abbrev pub IsScheduleFault : {A : Type 0} → Result A ScheduleFault → ScheduleFault → Type 0
IsScheduleFault answer NoMemory = Unit {0}
IsScheduleFault answer NotJson = answer ≡ Err NotJson
IsScheduleFault answer (BadSchedule place) = answer ≡ Err (BadSchedule place)
IsScheduleFault answer TooMany = answer ≡ Err TooMany

-- a fault's number
abbrev pub schedule_fault_number : ScheduleFault → ℕ
schedule_fault_number NotJson = 1
schedule_fault_number (BadSchedule place) = 2
schedule_fault_number TooMany = 3
schedule_fault_number NoMemory = 4

-- 0 where the fault has no place
abbrev pub fault_place : ScheduleFault → ℕ
fault_place (BadSchedule place) = place
fault_place _ = 0
