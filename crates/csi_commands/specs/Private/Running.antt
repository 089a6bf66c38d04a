-- What is given of a schedule that is run, and why one isn't run. This profile's own.
use Rattle.csi_streams.specs.declared.ending.Ending.{Ending}
use Rattle.csi_streams.specs.declared.ending.Ending.TheVariants as endings
use Rattle.csi_json.specs.declared.fault.ScheduleFault.{ScheduleFault}
use Rattle.csi_json.specs.declared.fault.ScheduleFault.TheVariants.{NotJson, BadSchedule, TooMany, NoMemory}

-- out of memory is no fault of the schedule
abbrev pub refusal_of : ScheduleFault → Ending
refusal_of NoMemory = endings.Memory
refusal_of NotJson = endings.ScheduleFault NotJson
refusal_of (BadSchedule place) = endings.ScheduleFault (BadSchedule place)
refusal_of TooMany = endings.ScheduleFault TooMany
