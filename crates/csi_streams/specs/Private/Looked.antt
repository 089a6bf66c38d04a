-- How far what is kept of a stream was looked through for a newline.
use Rattle.std.specs.Prelude.{◌≢◌, ◌<◌, ◌≤◌, ℕ, List, slice_index}

-- the part from one place to another lies in the bytes, which are so many, and no newline is in it
pub record IsLookedThrough (bytes : List ℕ) (len from to : ℕ) : Type 0 where
  pub ordered : from ≤ to
  pub within : to ≤ len
  pub none : (k : ℕ) → from ≤ k → k < to → slice_index bytes k ≢ 10
