-- How the frames of a stream were handled, to its end. This profile's own.
use Rattle.std.specs.Prelude.{◌≡◌, ◌≢◌, ◌<◌, ◌≤◌, ◌+◌, ◌^◌, ℕ, List, [], length, take, Option, Result, Ok, Err}
use Rattle.std.specs.List.{flat_map}
use Rattle.std.specs.Io.KnownBytes.{Consumes, IsAtEnd}
use Rattle.csi_types.specs.Model.Frame.{Frame}
use Rattle.csi_frames.specs.declared.fault.FaultKind.{FaultKind}
use Rattle.csi_frames.specs.declared.fault.FaultKind.TheVariants.{Short}
use Rattle.csi_frames.specs.Public.Fault.{IsFaulty}
use Rattle.csi_frames.specs.Public.Spelling.{spelling}
use Rattle.csi_frames.specs.Public.Splitting.{new_splitting}
use Rattle.csi_frames.specs.Public.Stream.{FramesOf}
use Rattle.csi_streams.specs.declared.driver.DriveStop.{DriveStop}
use Rattle.csi_streams.specs.declared.frames.Frames.{Frames}
use Rattle.csi_streams.specs.declared.frames.FramesFault.{FramesFault}
use Rattle.csi_streams.specs.declared.frames.FramesFault.TheVariants as faults
use Rattle.csi_streams.specs.Public.State.{State}
use Rattle.csi_streams.specs.Public.Framing.{Runs}
pub use Rattle.csi_streams.specs.Public.Handled.{IsBehind}
use Rattle.csi_streams.specs.Public.Handled.{AllHandled, FirstHandled, EndsReading}

-- nothing was read yet, and nothing waits to be written
pub record HasReadNothing {H : Type 0} (is_flushed : H → Type 0) (frames : Frames H) : Type 0 where
  pub splitter : frames.splitter ≡ new_splitting
  pub count : frames.count ≡ 0
  pub flushed : is_flushed frames.handler

-- the first fault of the rest, which isn't empty; its place counts from the front of the stream
pub record IsFaultOf (frames : List Frame) (rest : List ℕ) (kind : FaultKind) (place : ℕ) : Type 0 where
  pub at : ℕ
  pub something : rest ≢ []
  pub faulty : IsFaulty rest kind at
  pub here : place ≡ length (flat_map spelling frames) + at

-- the first frames were handled, as many as are counted, and then it stopped
pub record Halts {H S O F : Type 0} (handles : State H S O → ℕ → Frame → State H S O → Type 0) (flushes : State H S O → State H S O → Type 0) (stops : State H S O → Option Frame → State H S O → F → Type 0) (first now : State H S O) (frames : List Frame) (count : ℕ) (fault : F) : Type 0 where
  pub within : count ≤ length frames
  pub before : State H S O
  pub runs : Runs handles flushes first (take count frames) before
  pub frame : Option Frame
  pub behind : IsBehind frames count frame
  pub stopped : stops before frame now fault

-- How a stream of these frames and this rest ends: all were handled, and no byte is left over; or the rest is at fault; or memory ran out;
-- or what handles the frames stopped.
abbrev pub EndsFrames : {H S O F : Type 0} → (State H S O → ℕ → Frame → State H S O → Type 0) → (State H S O → State H S O → Type 0) → (H → Type 0) → (State H S O → Option Frame → State H S O → F → Type 0) → State H S O → State H S O → ℕ → List Frame → List ℕ → Type 0 → Result (Unit {0}) (FramesFault F) → Type 0
EndsFrames handles flushes is_flushed stops first now count frames rest at_end (Ok done) = at_end × (rest ≡ []) × AllHandled (Runs handles flushes first) is_flushed now frames count
EndsFrames handles flushes is_flushed stops first now count frames rest at_end (Err (faults.Frame kind place)) = (kind ≡ Short → at_end) × IsFaultOf frames rest kind place × AllHandled (Runs handles flushes first) is_flushed now frames count
EndsFrames handles flushes is_flushed stops first now count frames rest at_end (Err faults.NoMemory) = FirstHandled (Runs handles flushes first) is_flushed now frames count
EndsFrames handles flushes is_flushed stops first now count frames rest at_end (Err (faults.Handler fault)) = Halts handles flushes stops first now frames count fault

-- the rest waits for more: it is less than a length and its body take, or nothing
abbrev pub Waits : List ℕ → Type 0
Waits rest = IsFaulty rest Short (length rest)

-- some bytes were read, which are frames and a rest, and so it ended
pub record ReadsFrames {H S O F : Type 0} (handles : State H S O → ℕ → Frame → State H S O → Type 0) (flushes : State H S O → State H S O → Type 0) (is_flushed : H → Type 0) (stops : State H S O → Option Frame → State H S O → F → Type 0) (first now : State H S O) (count : ℕ) (left_before left_after : Option (List ℕ)) (result : Result (Unit {0}) (DriveStop (FramesFault F))) : Type 0 where
  pub read : List ℕ
  pub few : length read < 2 ^ 64
  pub consumed : Consumes left_before left_after read
  pub frames : List Frame
  pub rest : List ℕ
  pub stream : FramesOf read frames rest
  pub ends : EndsReading (EndsFrames handles flushes is_flushed stops first now count frames rest (IsAtEnd left_after)) (Waits rest) (AllHandled (Runs handles flushes first) is_flushed now frames count) read result

-- all frames of what was read were handled, and nothing waits to be written
abbrev pub RestsAtFrames : {H S O : Type 0} → (State H S O → ℕ → Frame → State H S O → Type 0) → (State H S O → State H S O → Type 0) → (H → Type 0) → State H S O → List ℕ → State H S O → Type 0
RestsAtFrames handles flushes is_flushed first read now = (frames : List Frame) × (rest : List ℕ) × FramesOf read frames rest × Runs handles flushes first frames now × is_flushed now.own
