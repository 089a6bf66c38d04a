-- How a stream is driven. This profile's own.
use Rattle.std.specs.Prelude.{◌≡◌, ◌<◌, ◌≤◌, ◌^◌, ◌++◌, ℕ, List, length, Bool, true, false, Option, Result, Ok, Err}
use Rattle.std.specs.Io.KnownBytes.{Consumes, IsAtEnd}
use Rattle.csi_stores.specs.Public.Counting.{HasRisen}
use Rattle.csi_frames.specs.Public.Bytes.{AreBytes}
use Rattle.csi_streams.specs.declared.driver.DriveStop.{DriveStop}
use Rattle.csi_streams.specs.declared.driver.DriveStop.TheVariants as stop
use Rattle.csi_streams.specs.Public.State.{State}

-- a piece was taken, or it stops
abbrev pub Feeds : {F : Type 0} → Type 0 → (F → Type 0) → Result (Unit {0}) F → Type 0
Feeds Fed Stops (Ok done) = Fed
Feeds Fed Stops (Err fault) = Stops fault

-- an item was handled; or none is there; or it stops
abbrev pub Nexts : {F : Type 0} → Type 0 → Type 0 → (F → Type 0) → Result Bool F → Type 0
Nexts Handled Rests Stops (Ok true) = Handled
Nexts Handled Rests Stops (Ok false) = Rests
Nexts Handled Rests Stops (Err fault) = Stops fault

-- the reader has ended; or it failed; or 2^63 bytes were read; or what takes the stream stopped
abbrev pub Ends : {A S O F : Type 0} → (State A S O → List ℕ → State A S O → Type 0) → (State A S O → List ℕ → State A S O → F → Type 0) → State A S O → State A S O → List ℕ → Type 0 → Result (Unit {0}) (DriveStop F) → Type 0
Ends rests stops first now read at_end (Ok done) = at_end × rests first read now
Ends rests stops first now read at_end (Err stop.Input) = rests first read now
Ends rests stops first now read at_end (Err stop.Endless) = (2 ^ 63 ≤ length read) × rests first read now
Ends rests stops first now read at_end (Err (stop.Consumer fault)) = stops first read now fault

-- these bytes were read, and so it ended
pub record Drives {A S O F : Type 0} (rests : State A S O → List ℕ → State A S O → Type 0) (stops : State A S O → List ℕ → State A S O → F → Type 0) (first now : State A S O) (left_before left_after : Option (List ℕ)) (result : Result (Unit {0}) (DriveStop F)) : Type 0 where
  pub read : List ℕ
  pub are : AreBytes read
  pub few : length read < 2 ^ 64
  pub consumed : Consumes left_before left_after read
  pub ends : Ends rests stops first now read (IsAtEnd left_after) result

-- all of these bytes were taken; or it stopped in the first of them
abbrev pub DrivesSlice : {A S O F : Type 0} → (State A S O → List ℕ → State A S O → Type 0) → (State A S O → List ℕ → State A S O → F → Type 0) → State A S O → State A S O → List ℕ → Result (Unit {0}) F → Type 0
DrivesSlice rests stops first now input (Ok done) = rests first input now
DrivesSlice rests stops first now input (Err fault) = (fed behind : List ℕ) × (input ≡ fed ++ behind) × stops first fed now fault

-- the reader failed at Input, and at no other end
abbrev pub TellsReader : {A F : Type 0} → ℕ → ℕ → Result A (DriveStop F) → Type 0
TellsReader before after (Ok a) = after ≡ before
TellsReader before after (Err stop.Input) = HasRisen before after
TellsReader before after (Err _) = after ≡ before

-- The reader may be asked for more wherever all that it gave was handled, and nothing waits.
abbrev pub IsAskedAtRest : {A S O R : Type 0} → (R → Option (List ℕ)) → (R → S → O → Type 0) → (State A S O → List ℕ → State A S O → Type 0) → State A S O → R → Type 0
IsAskedAtRest {A} {S} {O} {R} remaining may_read rests first reader = (gone : R) (read : List ℕ) (now : State A S O) → Consumes (remaining reader) (remaining gone) read → rests first read now → may_read gone now.store now.out

-- What a stream is read with that has begun so: a piece that has room, and a reader that may be asked for more wherever all that it gave was
-- handled, and nothing waits.
pub record MayRead {A S O R : Type 0} (remaining : R → Option (List ℕ)) (may_read : R → S → O → Type 0) (rests : State A S O → List ℕ → State A S O → Type 0) (has_begun : Type 0) (first : State A S O) (reader : R) (piece : List ℕ) : Type 0 where
  pub begun : has_begun
  pub room : 0 < length piece
  pub asks : IsAskedAtRest remaining may_read rests first reader
