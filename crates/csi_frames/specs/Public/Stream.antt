-- The frames of a stream.
use Rattle.std.specs.Prelude.{◌≡◌, ℕ, List, ◌++◌}
use Rattle.std.specs.List.{flat_map, AllByRecursion}
use Rattle.csi_types.specs.Model.Frame.{Frame}
use Rattle.csi_types.specs.Public.Limits.{IsFrame}
use Rattle.csi_frames.specs.Public.Spelling.{spelling, BeginsWith}

-- The spellings of these frames, one after another, stand at the front of the bytes, the rest comes after
-- them, and no further frame begins it.
pub record FramesOf (bytes : List ℕ) (frames : List Frame) (rest : List ℕ) : Type 0 where
  pub whole : bytes ≡ flat_map spelling frames ++ rest
  pub each : AllByRecursion IsFrame frames
  pub longest : (frame : Frame) (n : ℕ) → BeginsWith rest frame n → ⊥
