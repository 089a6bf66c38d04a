-- What a command does with the bytes of a reader: what it does with the bytes of a file. This profile's own.
use Rattle.std.specs.Prelude.{◌≡◌, ◌⊎◌, ℕ, ◌^◌, ◌≤◌, List, [], length, Option}
use Rattle.std.specs.Io.KnownBytes.{Appends, Consumes, IsAtEnd}
use Rattle.csi_types.specs.Model.Frame.{Frame}
use Rattle.csi_frames.specs.declared.fault.FaultKind.TheVariants.{Short}
use Rattle.csi_frames.specs.Public.Stream.{FramesOf}
use Rattle.csi_stores.specs.Public.Counting.{HasRisen}
use Rattle.csi_streams.specs.Public.Replay.{Grows}
use Rattle.csi_streams.specs.Public.Frames.{Waits}
use Rattle.csi_streams.specs.Public.Streaming.{AreReplies, AreLines, GivesFront}
use Rattle.csi_streams.specs.declared.command.FileCommand.{FileCommand}
use Rattle.csi_streams.specs.declared.command.FileCommand.TheVariants.{Answer, Show, Schedule}
use Rattle.csi_streams.specs.declared.ending.Ending.{Ending}
use Rattle.csi_streams.specs.declared.ending.Ending.TheVariants as endings
use Rattle.csi_commands.specs.Public.Ending.{EndsAs, RunsAs}
use Rattle.csi_commands.specs.Public.Running.{Drawing, Plays}

-- `file` ends so on these bytes, and appends this to nothing
abbrev pub FileEnds : Drawing → FileCommand → List ℕ → List ℕ → Ending → Type 0
FileEnds draws command bytes out ending = ((frames : List Frame) (rest : List ℕ) → FramesOf bytes frames rest → EndsAs command frames rest [] out ending) × RunsAs draws command bytes [] out ending

-- what `file` appends for these bytes at some time: the replies to some of the first frames, or their lines, or what a schedule gives or nothing
abbrev pub FileAppends : Drawing → FileCommand → List ℕ → List ℕ → Type 0
FileAppends draws Answer bytes all = (frames : List Frame) (rest : List ℕ) → FramesOf bytes frames rest → GivesFront AreReplies frames all
FileAppends draws Show bytes all = (frames : List Frame) (rest : List ℕ) → FramesOf bytes frames rest → GivesFront AreLines frames all
FileAppends draws (Schedule command) bytes all = (all ≡ []) ⊎ Plays draws command bytes [] all

-- a front of it was written
pub record WasCut (draws : Drawing) (command : FileCommand) (bytes out : List ℕ) : Type 0 where
  pub all : List ℕ
  pub appended : FileAppends draws command bytes all
  pub grows : Grows out all

-- the reader gave no fault yet, and all that `file` appends for its frames was written
abbrev pub WritesAll : FileCommand → List ℕ → List ℕ → Type 0
WritesAll Answer bytes out = (frames : List Frame) (rest : List ℕ) → FramesOf bytes frames rest → Waits rest × AreReplies frames out
WritesAll Show bytes out = (frames : List Frame) (rest : List ℕ) → FramesOf bytes frames rest → Waits rest × AreLines frames out
WritesAll (Schedule command) bytes out = ⊥

-- at these endings nothing is left unread
abbrev pub ReadsAll : Type 0 → Ending → Type 0
ReadsAll at_end endings.Done = at_end
ReadsAll at_end (endings.FrameFault kind place) = kind ≡ Short → at_end
ReadsAll at_end (endings.ScheduleFault fault) = at_end
ReadsAll at_end endings.NotUtf8 = at_end
ReadsAll at_end _ = Unit {0}

-- It ends as with the bytes of a file, or a device failed, or the reader of frames gave 2^63 bytes; or memory ran out before a schedule gave
-- anything, perhaps before it was read.
abbrev pub StreamEndsAs : Drawing → FileCommand → Type 0 → List ℕ → List ℕ → Ending → Type 0
StreamEndsAs draws command at_end bytes out endings.Device = WasCut draws command bytes out
StreamEndsAs draws command at_end bytes out endings.Endless = (2 ^ 63 ≤ length bytes) × WritesAll command bytes out
StreamEndsAs draws (Schedule command) at_end bytes out endings.Memory = out ≡ []
StreamEndsAs draws command at_end bytes out ending = ReadsAll at_end ending × FileEnds draws command bytes out ending

-- a device failed, the reader or the writer, at the ending that says so, and neither failed at any other
abbrev pub TellsDevice : ℕ → ℕ → ℕ → ℕ → Ending → Type 0
TellsDevice reader_before reader_after writer_before writer_after endings.Device = HasRisen reader_before reader_after ⊎ HasRisen writer_before writer_after
TellsDevice reader_before reader_after writer_before writer_after _ = (reader_after ≡ reader_before) × (writer_after ≡ writer_before)

-- some bytes were read, and some written, and so it ended
pub record StreamsAs (draws : Drawing) (command : FileCommand) (left_before left_after written_before written_after : Option (List ℕ)) (ending : Ending) : Type 0 where
  pub bytes : List ℕ
  pub consumed : Consumes left_before left_after bytes
  pub out : List ℕ
  pub written : Appends written_before written_after out
  pub ends : StreamEndsAs draws command (IsAtEnd left_after) bytes out ending
