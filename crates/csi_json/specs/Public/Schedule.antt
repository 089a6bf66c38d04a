-- A schedule, in JSON: a configuration, and what happens. This profile's own.
use Rattle.std.specs.Prelude.{ℕ, nat_lt, if◌then◌else◌, List, [], ◌∷◌, ◌++◌, map, length, Option, Some, None, Result, Ok, Err, codes}
use Rattle.serde_json.specs.Data.{Data}
use Rattle.serde_json.specs.Read.{read}
use Rattle.serde_json.specs.Find.{get}
use Rattle.csi_types.specs.Model.Config.{Config}
use Rattle.csi_json.specs.declared.happening.Happening.{Happening}
use Rattle.csi_json.specs.declared.happening.Happening.TheVariants.{Occurs, Recovers}
use Rattle.csi_json.specs.declared.schedule.Schedule as schedules
use Rattle.csi_json.specs.declared.fault.ScheduleFault.{ScheduleFault}
use Rattle.csi_json.specs.declared.fault.ScheduleFault.TheVariants.{NotJson, BadSchedule, TooMany}
use Rattle.csi_json.specs.Public.Json.{◌>>=◌, sized_object, list_of, read_all}
use Rattle.csi_json.specs.Public.Configs.{config_of}
use Rattle.csi_json.specs.Public.Happenings.{happening_of}

-- a schedule: the configuration, and what happens, in order
pub record Schedule : Type 0 where
  pub config : Config
  pub happenings : List Happening

-- the configuration, and what happens as it stands
unfoldable pub config_and_events : Data → Option (Config × List Data)
config_and_events d = do
  object ← sized_object 2 d
  config ← get (codes "config") object >>= config_of
  events ← get (codes "events") object >>= list_of
  Some (config, events)

-- what happens, or the first that is bad, counted from 1
abbrev pub happenings_or_fault : Result (List Happening) ℕ → Result (List Happening) ScheduleFault
happenings_or_fault (Ok happenings) = Ok happenings
happenings_or_fault (Err place) = Err (BadSchedule place)

-- at most 100000 of them
unfoldable pub happenings_of : List Data → Result (List Happening) ScheduleFault
happenings_of ds = if nat_lt 100000 (length ds) then Err TooMany else happenings_or_fault (read_all happening_of 1 ds)

-- a configuration with what happens, or the fault of that
abbrev pub with_happenings : Config → Result (List Happening) ScheduleFault → Result Schedule ScheduleFault
with_happenings config (Ok happenings) = Ok (record { config = config; happenings = happenings })
with_happenings config (Err fault) = Err fault

-- the schedule of a configuration and of values to be read
abbrev pub schedule_in : Option (Config × List Data) → Result Schedule ScheduleFault
schedule_in (Some parts) = with_happenings parts.0 (happenings_of parts.1)
schedule_in None = Err (BadSchedule 0)

-- the schedule that a value of JSON is, or its fault
abbrev pub schedule_of : Data → Result Schedule ScheduleFault
schedule_of d = schedule_in (config_and_events d)

-- what is read of a text: a schedule, or why there is none
abbrev pub schedule_read : Option Data → Result Schedule ScheduleFault
schedule_read (Some d) = schedule_of d
schedule_read None = Err NotJson

-- the schedule that a text says, or its fault
abbrev pub text_schedule : List ℕ → Result Schedule ScheduleFault
text_schedule text = schedule_read (read text)

-- a schedule as it is kept: its first events, and what happens behind them
abbrev pub schedule_shown : schedules.Schedule → Schedule
schedule_shown kept = record { config = kept.config; happenings = map Occurs kept.events.items ++ kept.on.items }

-- what happens behind the first events begins with a recovery, if there is anything
abbrev pub BeginsWithRecovery : List Happening → Type 0
BeginsWithRecovery [] = Unit {0}
BeginsWithRecovery (Recovers recovery ∷ others) = Unit {0}
BeginsWithRecovery (Occurs event ∷ others) = ⊥
