-- A schedule without recoveries, in JSON: a configuration, and events. This profile's own.
use Rattle.std.specs.Prelude.{ℕ, nat_lt, if◌then◌else◌, List, length, Option, Some, None, Result, Ok, Err}
use Rattle.serde_json.specs.Data.{Data}
use Rattle.serde_json.specs.Read.{read}
use Rattle.csi_types.specs.Model.Config.{Config}
use Rattle.csi_types.specs.declared.event.Event.{Event}
use Rattle.csi_json.specs.declared.fault.ScheduleFault.{ScheduleFault}
use Rattle.csi_json.specs.declared.fault.ScheduleFault.TheVariants.{NotJson, BadSchedule, TooMany}
use Rattle.csi_json.specs.Public.Json.{read_all}
use Rattle.csi_json.specs.Public.Events.{event_of}
use Rattle.csi_json.specs.Public.Schedule.{config_and_events}

-- a schedule: the configuration, and the events in order
pub record Schedule : Type 0 where
  pub config : Config
  pub events : List Event

-- the events, or the first bad one, counted from 1
abbrev pub events_or_fault : Result (List Event) ℕ → Result (List Event) ScheduleFault
events_or_fault (Ok events) = Ok events
events_or_fault (Err place) = Err (BadSchedule place)

-- events, of which there are at most 100000
unfoldable pub events_of : List Data → Result (List Event) ScheduleFault
events_of ds = if nat_lt 100000 (length ds) then Err TooMany else events_or_fault (read_all event_of 1 ds)

-- a configuration with its events, or their fault
abbrev pub with_events : Config → Result (List Event) ScheduleFault → Result Schedule ScheduleFault
with_events config (Ok events) = Ok (record { config = config; events = events })
with_events config (Err fault) = Err fault

-- the schedule of a configuration and of values to be read as events
abbrev pub schedule_in : Option (Config × List Data) → Result Schedule ScheduleFault
schedule_in (Some parts) = with_events parts.0 (events_of parts.1)
schedule_in None = Err (BadSchedule 0)

-- the schedule that a value of JSON is, or its fault
abbrev pub schedule_of : Data → Result Schedule ScheduleFault
schedule_of d = schedule_in (config_and_events d)

-- what is read of a text: a schedule, or why there is none
abbrev pub schedule_read : Option Data → Result Schedule ScheduleFault
schedule_read (Some d) = schedule_of d
schedule_read None = Err NotJson

-- the schedule that a text says, or its fault
abbrev pub text_schedule : List ℕ → Result Schedule ScheduleFault
text_schedule text = schedule_read (read text)
