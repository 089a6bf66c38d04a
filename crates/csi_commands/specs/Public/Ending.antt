-- How a command on the bytes of a file ends. This profile's own.
use Rattle.std.specs.Prelude.{◌≡◌, ℕ, List}
use Rattle.csi_types.specs.Model.Frame.{Frame}
use Rattle.csi_streams.specs.declared.ending.Ending.{Ending}
use Rattle.csi_streams.specs.declared.ending.Ending.TheVariants.{Done, FrameFault, Memory}
use Rattle.csi_streams.specs.declared.answers.SliceFault.TheVariants as faults
use Rattle.csi_streams.specs.declared.command.FileCommand.{FileCommand}
use Rattle.csi_streams.specs.declared.command.FileCommand.TheVariants.{Answer, Show, Schedule}
use Rattle.csi_streams.specs.Public.Replay.{spelled_replies, AppendsAll, Fails}
use Rattle.csi_streams.specs.Public.FrameLines.{lines}
use Rattle.csi_commands.specs.Public.Running.{Drawing, Plays, IsScheduleRefused}

-- Of a command on frames, that gives this text of them: where it is done, it has appended that of all frames, and the rest is empty; a fault is
-- that of the rest, and the text of all frames before it was appended, or, out of memory, that of some of the first.
abbrev pub FramesEnd : (List Frame → List ℕ) → List Frame → List ℕ → List ℕ → List ℕ → Ending → Type 0
FramesEnd text frames rest old new Done = AppendsAll text frames rest old new
FramesEnd text frames rest old new (FrameFault kind place) = Fails text frames rest old new (faults.Frame kind place)
FramesEnd text frames rest old new Memory = Fails text frames rest old new faults.NoMemory
FramesEnd text frames rest old new _ = ⊥

-- the replies to the frames, or their lines; and of a schedule nothing is said here
abbrev pub EndsAs : FileCommand → List Frame → List ℕ → List ℕ → List ℕ → Ending → Type 0
EndsAs Answer frames rest old new ending = FramesEnd spelled_replies frames rest old new ending
EndsAs Show frames rest old new ending = FramesEnd lines frames rest old new ending
EndsAs (Schedule command) frames rest old new ending = Unit {0}

-- Where a schedule was run, what the command gives of it was appended, and otherwise nothing.
abbrev pub RunsAs : Drawing → FileCommand → List ℕ → List ℕ → List ℕ → Ending → Type 0
RunsAs draws Answer input old new ending = Unit {0}
RunsAs draws Show input old new ending = Unit {0}
RunsAs draws (Schedule command) input old new Done = Plays draws command input old new
RunsAs draws (Schedule command) input old new ending = IsScheduleRefused input ending × (new ≡ old)
