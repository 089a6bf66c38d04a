-- How the frames of a stream are handled.
use Rattle.std.specs.Prelude.{◌≡◌, ℕ, ◌≤◌, List, [], ◌∷◌, ◌++◌, length, take, Option, Result, Ok, Err}
use Rattle.std.specs.List.{flat_map}
use Rattle.std.specs.Io.KnownBytes.{Appends}
use Rattle.csi_types.specs.Model.Frame.{Frame}
use Rattle.csi_frames.specs.Public.Spelling.{spelling}
use Rattle.csi_stores.specs.Public.Counting.{HasRisen}
use Rattle.csi_stores.specs.Public.Writing.{WritesFront}
use Rattle.csi_streams.specs.declared.driver.DriveStop.{DriveStop}
use Rattle.csi_streams.specs.declared.driver.DriveStop.TheVariants as stop
use Rattle.csi_streams.specs.declared.frames.FramesFault.{FramesFault}
use Rattle.csi_streams.specs.declared.frames.FramesFault.TheVariants as frames_faults
use Rattle.csi_streams.specs.Public.Frames.{IsFaultOf}
use Rattle.csi_types.specs.declared.memory.NoMemory.{NoMemory}
use Rattle.csi_streams.specs.declared.answers.SliceFault.{SliceFault}
use Rattle.csi_streams.specs.declared.answers.SliceFault.TheVariants as faults
use Rattle.csi_streams.specs.declared.streaming.StreamFault.{StreamFault}
use Rattle.csi_streams.specs.declared.streaming.StreamFault.TheVariants as stops
use Rattle.csi_streams.specs.declared.giving.GivingFault.{GivingFault}
use Rattle.csi_streams.specs.declared.giving.GivingFault.TheVariants as givings

-- one frame more was handled, and what is given for it was appended
pub record Handles {H : Type 0} (has_handled : H → List Frame → Type 0) (gives : List Frame → List ℕ → Type 0) (frames : List Frame) (frame : Frame) (new : H) (before after : List ℕ) : Type 0 where
  pub handled : has_handled new (frames ++ frame ∷ [])
  pub more : List ℕ
  pub appended : after ≡ before ++ more
  pub given : (bytes : List ℕ) → gives frames bytes → gives (frames ++ frame ∷ []) (bytes ++ more)

-- so it is whatever was handled before, where the frame stands behind that
abbrev pub Gives : {H : Type 0} → (H → List Frame → Type 0) → (List Frame → List ℕ → Type 0) → H → ℕ → Frame → H → List ℕ → List ℕ → Type 0
Gives has_handled gives old place frame new before after =
    (frames : List Frame) → has_handled old frames → place ≡ length (flat_map spelling frames) → Handles has_handled gives frames frame new before after

-- ---- what is given waits, and is written together

-- what waited was written, and nothing waits; the writer didn't fail
pub record WritesGiven {H : Type 0} (old new : H) (waited waits : List ℕ) (had has : Option (List ℕ)) (before after : ℕ) : Type 0 where
  pub same : new ≡ old
  pub none : waits ≡ []
  pub written : Appends had has waited
  pub quiet : after ≡ before

-- memory ran out, and what waited was written; or the writer failed, and a front of it was
abbrev pub StopsGiving : List ℕ → Option (List ℕ) → Option (List ℕ) → ℕ → ℕ → GivingFault → Type 0
StopsGiving waited had has before after givings.NoMemory = Appends had has waited × (after ≡ before)
StopsGiving waited had has before after givings.Output = WritesFront had has waited × HasRisen before after

-- why a stream isn't handled to its end
abbrev pub stream_fault : DriveStop (FramesFault GivingFault) → StreamFault
stream_fault stop.Input = stops.Input
stream_fault stop.Endless = stops.Endless
stream_fault (stop.Consumer (frames_faults.Frame kind place)) = stops.Frame kind place
stream_fault (stop.Consumer frames_faults.NoMemory) = stops.NoMemory
stream_fault (stop.Consumer (frames_faults.Handler givings.NoMemory)) = stops.NoMemory
stream_fault (stop.Consumer (frames_faults.Handler givings.Output)) = stops.Output

-- ---- bytes that are there whole

-- why they aren't handled to their end
abbrev pub slice_fault : FramesFault NoMemory → SliceFault
slice_fault (frames_faults.Frame kind place) = faults.Frame kind place
slice_fault frames_faults.NoMemory = faults.NoMemory
slice_fault (frames_faults.Handler refused) = faults.NoMemory

-- what is given for these frames was appended
pub record Adds (gives : List Frame → List ℕ → Type 0) (frames : List Frame) (before after : List ℕ) : Type 0 where
  pub more : List ℕ
  pub appended : after ≡ before ++ more
  pub given : gives frames more

-- All frames were handled, and no byte is left over; or the rest is at fault; or memory ran out.
abbrev pub HandlesWhole : (List Frame → List ℕ → Type 0) → List Frame → List ℕ → List ℕ → List ℕ → Result ℕ SliceFault → Type 0
HandlesWhole gives frames rest before after (Ok count) = (rest ≡ []) × (count ≡ length frames) × Adds gives frames before after
HandlesWhole gives frames rest before after (Err (faults.Frame kind place)) = IsFaultOf frames rest kind place × Adds gives frames before after
HandlesWhole gives frames rest before after (Err faults.NoMemory) = (k : ℕ) × (k ≤ length frames) × Adds gives (take k frames) before after
