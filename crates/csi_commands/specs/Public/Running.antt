-- What is given of a schedule that is run, and why one isn't run. This profile's own.
use Rattle.std.specs.Prelude.{◌≡◌, ℕ, List, [], ◌∷◌, ◌++◌, map, Bool, true, false, Ok, Err}
use Rattle.std.specs.List.{flat_map, list_any}
use Rattle.std.specs.Str.{IsUtf8}
use Rattle.csi_frames.specs.Public.Spelling.{spelling}
use Rattle.csi_types.specs.declared.event.Event.{Event}
use Rattle.csi_types.specs.declared.event.Event.TheVariants.{Settle}
use Rattle.csi_json.specs.declared.happening.Happening.{Happening}
use Rattle.csi_json.specs.declared.happening.Happening.TheVariants.{Occurs}
use Rattle.csi_json.specs.Public.Schedule.{Schedule, text_schedule}
use Rattle.csi_world.specs.Public.Settling.{spelled_out}
use Rattle.csi_world.specs.Model.Simulated.{WorldParts}
use Rattle.csi_commands.specs.Public.Playing.{IsPlayed}
use Rattle.csi_reports.specs.Public.Report.{IsReport}
use Rattle.csi_streams.specs.declared.command.ScheduleCommand.{ScheduleCommand}
use Rattle.csi_streams.specs.declared.command.ScheduleCommand.TheVariants.{Run, Frames, Draw}
use Rattle.csi_streams.specs.declared.ending.Ending.{Ending}
use Rattle.csi_streams.specs.declared.ending.Ending.TheVariants as endings

-- the bytes are the report of the world, and a newline
pub record IsReportLine (world : WorldParts) (bytes : List ℕ) : Type 0 where
  pub report : List ℕ
  pub reported : IsReport world report
  pub line : bytes ≡ report ++ 10 ∷ []

-- of a schedule, and a world to which it led: the bytes are its picture
abbrev pub Drawing : Type 1
Drawing = Schedule → WorldParts → List ℕ → Type 0

-- what a command gives of a world, to which a schedule led: its report and a newline, the spellings of all frames that were sent, in order, or its picture
abbrev pub IsGivenOf : Drawing → ScheduleCommand → Schedule → WorldParts → List ℕ → Type 0
IsGivenOf draws Run schedule world bytes = IsReportLine world bytes
IsGivenOf draws Frames schedule world bytes = bytes ≡ flat_map spelling world.frames
IsGivenOf draws Draw schedule world bytes = draws schedule world bytes

-- this happens, and settles a volume
abbrev pub settles : Happening → Bool
settles (Occurs (Settle name)) = true
settles happening = false

-- a schedule is told so to be drawn: as it is where nothing settles a volume; and where it has events alone, by those that what settles a volume
-- stands for
pub record IsToldAs (schedule told : Schedule) : Type 0 where
  pub config : told.config ≡ schedule.config
  pub alone : list_any settles schedule.happenings ≡ false → told.happenings ≡ schedule.happenings
  pub events : (events : List Event) → schedule.happenings ≡ map Occurs events → told.happenings ≡ map Occurs (spelled_out schedule.config events)

-- so a command runs it
abbrev pub IsRunAs : ScheduleCommand → Schedule → Schedule → Type 0
IsRunAs Run schedule told = told ≡ schedule
IsRunAs Frames schedule told = told ≡ schedule
IsRunAs Draw schedule told = IsToldAs schedule told

-- the command gives this of the world to which the schedule leads from an empty one of its configuration
pub record IsGiven (draws : Drawing) (command : ScheduleCommand) (schedule : Schedule) (bytes : List ℕ) : Type 0 where
  pub world : WorldParts
  pub shows : IsPlayed schedule world
  pub given : IsGivenOf draws command schedule world bytes

-- the input is a schedule, and what the command gives of it, as the command runs it, was appended
pub record Plays (draws : Drawing) (command : ScheduleCommand) (input old new : List ℕ) : Type 0 where
  pub schedule : Schedule
  pub read : text_schedule input ≡ Ok schedule
  pub told : Schedule
  pub is_told : IsRunAs command schedule told
  pub given : List ℕ
  pub gives : IsGiven draws command told given
  pub appended : new ≡ old ++ given

-- The input is no UTF-8, or is and has this fault; or it is, and memory ran out.
abbrev pub IsScheduleRefused : List ℕ → Ending → Type 0
IsScheduleRefused input endings.NotUtf8 = IsUtf8 input → ⊥
IsScheduleRefused input (endings.ScheduleFault fault) = IsUtf8 input × (text_schedule input ≡ Err fault)
IsScheduleRefused input endings.Memory = IsUtf8 input
IsScheduleRefused input _ = ⊥
