-- How far the frames of a stream were handled. This profile's own.
use Rattle.std.specs.Prelude.{◌≡◌, ◌+◌, ◌-◌, ◌<◌, ◌^◌, ◌++◌, min, ℕ, List, [], ◌∷◌, length, Option, Some, None, Ok, Err}
use Rattle.std.specs.List.{flat_map, AllByRecursion}
use Rattle.csi_types.specs.Model.Frame.{Frame}
use Rattle.csi_types.specs.Public.Limits.{IsFrame}
use Rattle.csi_frames.specs.Public.Bytes.{AreBytes}
use Rattle.csi_frames.specs.Public.Cutting.{Splits, HasNoFrame}
use Rattle.csi_frames.specs.Public.Spelling.{spelling}
use Rattle.csi_frames.specs.Public.Splitting.{Splitting, IsNextFrame}
use Rattle.csi_streams.specs.declared.frames.Frames.{Frames}
use Rattle.csi_streams.specs.declared.frames.FramesFault.{FramesFault}
use Rattle.csi_streams.specs.declared.frames.FramesFault.TheVariants as faults
use Rattle.csi_streams.specs.Public.State.{State}

-- From the first state these frames, handled one after another, led to this one; now and then what waited was written.
pub data Runs {H S O : Type 0} (handles : State H S O → ℕ → Frame → State H S O → Type 0) (flushes : State H S O → State H S O → Type 0) (first : State H S O) : List Frame → State H S O → Type 0 where
  begins : Runs handles flushes first [] first
  handled : (frames : List Frame) (now : State H S O) (frame : Frame) (next : State H S O) → Runs handles flushes first frames now → handles now (length (flat_map spelling frames)) frame next → Runs handles flushes first (frames ++ frame ∷ []) next
  flushed : (frames : List Frame) (now next : State H S O) → Runs handles flushes first frames now → flushes now next → Runs handles flushes first frames next

-- the state of what handles the frames
abbrev pub inner : {H S O : Type 0} → State (Frames H) S O → State H S O
inner state = record { own = state.own.handler; store = state.store; out = state.out }

-- These bytes were fed, and the frames that the splitter gave of them were handled.
pub record Reaches {H S O : Type 0} (handles : State H S O → ℕ → Frame → State H S O → Type 0) (flushes : State H S O → State H S O → Type 0) (first : State (Frames H) S O) (fed : List ℕ) (now : State (Frames H) S O) : Type 0 where
  pub are : AreBytes fed
  pub few : length fed < 2 ^ 64
  pub done : List Frame
  pub splits : Splits fed done now.own.splitter
  pub each : AllByRecursion IsFrame done
  pub whole : fed ≡ flat_map spelling done ++ now.own.splitter.kept
  pub taken : now.own.splitter.taken ≡ length (flat_map spelling done)
  pub no_fault : now.own.splitter.fault ≡ None
  pub counted : now.own.count ≡ length done
  pub runs : Runs handles flushes (inner first) done (inner now)

-- the bytes that are kept wait for more
abbrev pub WaitsForMore : Splitting → Type 0
WaitsForMore splitter = IsNextFrame splitter.fault splitter.kept (Ok None) × HasNoFrame splitter

-- the same; the splitter waits for more, and nothing waits to be written
pub record Rests {H S O : Type 0} (handles : State H S O → ℕ → Frame → State H S O → Type 0) (flushes : State H S O → State H S O → Type 0) (is_flushed : H → Type 0) (first : State (Frames H) S O) (fed : List ℕ) (now : State (Frames H) S O) : Type 0 where
  pub reached : Reaches handles flushes first fed now
  pub waits : WaitsForMore now.own.splitter
  pub flushed : is_flushed now.own.handler

-- the next frame, if it stops there
abbrev pub IsThere : Splitting → Option Frame → Type 0
IsThere splitter None = Unit {0}
IsThere splitter (Some frame) = IsNextFrame splitter.fault splitter.kept (Ok (Some frame))

-- Why it stopped in these bytes, behind those that were fed and in a state that was reached before: what the splitter kept is at fault, and
-- what waited was written; or there was no memory for a piece; or what handles the frames stopped.
abbrev pub StopsBehind : {H S O F : Type 0} → (State H S O → State H S O → Type 0) → (H → Type 0) → (State H S O → Option Frame → State H S O → F → Type 0) → List ℕ → List ℕ → State (Frames H) S O → State (Frames H) S O → FramesFault F → Type 0
StopsBehind flushes is_flushed stops bytes fed before now (faults.Frame kind place) =
    (at : ℕ) × (bytes ≡ fed) × IsNextFrame before.own.splitter.fault before.own.splitter.kept (Err (record { kind = kind; place = at })) × (place ≡ min (before.own.splitter.taken + at) (2 ^ 64 - 1))
    × flushes (inner before) (inner now) × is_flushed now.own.handler
StopsBehind flushes is_flushed stops bytes fed before now faults.NoMemory = (piece : List ℕ) × (bytes ≡ fed ++ piece) × (inner now ≡ inner before) × is_flushed now.own.handler
StopsBehind flushes is_flushed stops bytes fed before now (faults.Handler fault) = (frame : Option Frame) × (bytes ≡ fed) × IsThere before.own.splitter frame × stops (inner before) frame (inner now) fault

-- it stopped so
pub record StopsIn {H S O F : Type 0} (handles : State H S O → ℕ → Frame → State H S O → Type 0) (flushes : State H S O → State H S O → Type 0) (is_flushed : H → Type 0) (stops : State H S O → Option Frame → State H S O → F → Type 0) (first : State (Frames H) S O) (bytes : List ℕ) (now : State (Frames H) S O) (fault : FramesFault F) : Type 0 where
  pub fed : List ℕ
  pub before : State (Frames H) S O
  pub reached : Reaches handles flushes first fed before
  pub counted : now.own.count ≡ before.own.count
  pub behind : StopsBehind flushes is_flushed stops bytes fed before now fault
