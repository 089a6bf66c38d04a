-- What was handled of the items of a stream, frames or lines. This profile's own.
use Rattle.std.specs.Prelude.{◌≡◌, ◌≤◌, ◌^◌, ℕ, List, length, take, slice_get, Option, Some, None, Result, Ok, Err}
use Rattle.csi_streams.specs.declared.driver.DriveStop.{DriveStop}
use Rattle.csi_streams.specs.declared.driver.DriveStop.TheVariants as stop
use Rattle.csi_streams.specs.Public.State.{State}

-- all of these items were handled, and nothing waits to be written
pub record AllHandled {H S O X : Type 0} (leads : List X → State H S O → Type 0) (is_flushed : H → Type 0) (now : State H S O) (items : List X) (count : ℕ) : Type 0 where
  pub runs : leads items now
  pub flushed : is_flushed now.own
  pub counted : count ≡ length items

-- the first items were handled, as many as are counted, and nothing waits to be written
pub record FirstHandled {H S O X : Type 0} (leads : List X → State H S O → Type 0) (is_flushed : H → Type 0) (now : State H S O) (items : List X) (count : ℕ) : Type 0 where
  pub within : count ≤ length items
  pub runs : leads (take count items) now
  pub flushed : is_flushed now.own

-- behind so many items stands this one, or it stopped where it wrote what waited
abbrev pub IsBehind : {X : Type 0} → List X → ℕ → Option X → Type 0
IsBehind items count None = Unit {0}
IsBehind items count (Some item) = slice_get items count ≡ Some item

-- How a reader's stream ends: as its items and its rest do; or the reader failed, or gave 2^63 bytes, where the rest is as it may be and all
-- items were handled.
abbrev pub EndsReading : {F : Type 0} → (Result (Unit {0}) F → Type 0) → Type 0 → Type 0 → List ℕ → Result (Unit {0}) (DriveStop F) → Type 0
EndsReading ends may_rest all_handled read (Ok done) = ends (Ok done)
EndsReading ends may_rest all_handled read (Err stop.Input) = may_rest × all_handled
EndsReading ends may_rest all_handled read (Err stop.Endless) = (2 ^ 63 ≤ length read) × may_rest × all_handled
EndsReading ends may_rest all_handled read (Err (stop.Consumer fault)) = ends (Err fault)
