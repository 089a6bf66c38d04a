-- What a replay answers: the replies of a new controller to the frames of a stream, as bytes. This profile's own.
use Rattle.std.specs.Prelude.{◌≡◌, ℕ, ◌≤◌, List, [], ◌∷◌, ◌++◌, length, take}
use Rattle.std.specs.Option.{option_to_list}
use Rattle.std.specs.List.{flat_map}
use Rattle.csi_types.specs.declared.capacity.TheConstants.{MAX_CAPACITY}
use Rattle.csi_types.specs.Model.Config.{Config}
use Rattle.csi_types.specs.Model.Frame.{Frame}
use Rattle.csi_frames.specs.Public.Spelling.{spelling}
use Rattle.csi_controller.specs.Model.State.{ControllerState, empty_controller}
use Rattle.csi_controller.specs.Model.Fenced.{fenced}
use Rattle.csi_streams.specs.Public.Frames.{IsFaultOf}
use Rattle.csi_streams.specs.declared.answers.SliceFault.{SliceFault}
use Rattle.csi_streams.specs.declared.answers.SliceFault.TheVariants as faults

-- the greatest capacity that a call may name, 2^63 - 1, and no nodes
abbrev pub replay_config : Config
replay_config = record { greatest = MAX_CAPACITY; nodes = [] }

-- the replies to these frames, one after another
abbrev pub replies_from : ControllerState → List Frame → List Frame
replies_from state [] = []
replies_from state (frame ∷ frames) = option_to_list (fenced replay_config state frame).reply ++ replies_from (fenced replay_config state frame).state frames

-- the spellings of a new controller's replies
unfoldable pub spelled_replies : List Frame → List ℕ
spelled_replies frames = flat_map spelling (replies_from empty_controller frames)

-- what was there stays at the front
pub record Grows (old new : List ℕ) : Type 0 where
  pub more : List ℕ
  pub appended : new ≡ old ++ more

-- the bytes for the first k frames were appended, for some k
pub record AppendsFront (text : List Frame → List ℕ) (frames : List Frame) (old new : List ℕ) : Type 0 where
  pub count : ℕ
  pub within : count ≤ length frames
  pub appended : new ≡ old ++ text (take count frames)

-- The bytes for all frames of the stream were appended, and the rest is empty.
pub record AppendsAll (text : List Frame → List ℕ) (frames : List Frame) (rest old new : List ℕ) : Type 0 where
  pub whole : rest ≡ []
  pub appended : new ≡ old ++ text frames

-- The rest is at fault, and the bytes for all frames before it were appended; or memory ran out.
abbrev pub Fails : (List Frame → List ℕ) → List Frame → List ℕ → List ℕ → List ℕ → SliceFault → Type 0
Fails text frames rest old new (faults.Frame kind place) = IsFaultOf frames rest kind place × (new ≡ old ++ text frames)
Fails text frames rest old new faults.NoMemory = AppendsFront text frames old new
