-- How the lines of a stream were handled, to its end. This profile's own.
use Rattle.std.specs.Prelude.{◌≡◌, ◌<◌, ◌≤◌, ◌+◌, ◌^◌, ◌++◌, ◌⊎◌, ℕ, List, [], ◌∷◌, length, take, slice_get, Option, Some, Result, Ok, Err, IfSome}
use Rattle.std.specs.Io.KnownBytes.{Consumes, IsAtEnd}
use Rattle.csi_streams.specs.declared.driver.DriveStop.{DriveStop}
use Rattle.csi_streams.specs.declared.lines.Lines.{Lines}
use Rattle.csi_streams.specs.declared.lines.LinesFault.{LinesFault}
use Rattle.csi_streams.specs.declared.lines.LinesFault.TheVariants as faults
use Rattle.csi_streams.specs.Public.LinesOf.{LinesOf, IsShort, and_last}
use Rattle.csi_streams.specs.Public.Handled.{AllHandled, FirstHandled, IsBehind, EndsReading}
use Rattle.csi_streams.specs.Public.Lining.{RunsLines}
use Rattle.csi_streams.specs.Public.State.{State}

-- nothing was read yet, and nothing waits to be written
pub record HasReadNothing {H : Type 0} (is_flushed : H → Type 0) (lines : Lines H) : Type 0 where
  pub buffer : lines.buffer ≡ []
  pub count : lines.count ≡ 0
  pub flushed : is_flushed lines.handler

-- the first lines were handled, as many as are counted, and then it stopped, at no line that is too long
pub record HaltsAtLine {H S O F : Type 0} (handles : State H S O → ℕ → List ℕ → State H S O → Type 0) (flushes : State H S O → State H S O → Type 0) (stops : State H S O → Option (List ℕ) → State H S O → F → Type 0) (first now : State H S O) (lines : List (List ℕ)) (count : ℕ) (fault : F) : Type 0 where
  pub within : count ≤ length lines
  pub before : State H S O
  pub runs : RunsLines handles flushes first (take count lines) before
  pub line : Option (List ℕ)
  pub behind : IsBehind lines count line
  pub short : IfSome line IsShort
  pub stopped : stops before line now fault

-- the line with this number, or the rest where it comes next, has more than 65,536 bytes
pub record IsLongAt (lines : List (List ℕ)) (rest : List ℕ) (count number : ℕ) : Type 0 where
  pub numbered : number ≡ count + 1
  pub line : List ℕ
  pub here : slice_get (lines ++ rest ∷ []) count ≡ Some line
  pub long : 65536 < length line

-- How a stream of these lines and this rest ends: all were handled, the rest too, if it isn't empty; or a line is too long, and those before
-- it were handled; or memory ran out; or what handles the lines stopped, at the rest only where the stream has ended.
abbrev pub EndsLines : {H S O F : Type 0} → (State H S O → ℕ → List ℕ → State H S O → Type 0) → (State H S O → State H S O → Type 0) → (H → Type 0) → (State H S O → Option (List ℕ) → State H S O → F → Type 0) → State H S O → State H S O → ℕ → List (List ℕ) → List ℕ → Type 0 → Result (Unit {0}) (LinesFault F) → Type 0
EndsLines handles flushes is_flushed stops first now count lines rest at_end (Ok done) = at_end × AllHandled (RunsLines handles flushes first) is_flushed now (and_last lines rest) count
EndsLines handles flushes is_flushed stops first now count lines rest at_end (Err (faults.Long number)) = IsLongAt lines rest count number × FirstHandled (RunsLines handles flushes first) is_flushed now lines count
EndsLines handles flushes is_flushed stops first now count lines rest at_end (Err faults.NoMemory) = FirstHandled (RunsLines handles flushes first) is_flushed now lines count
EndsLines handles flushes is_flushed stops first now count lines rest at_end (Err (faults.Handler fault)) =
    HaltsAtLine handles flushes stops first now lines count fault ⊎ (at_end × HaltsAtLine handles flushes stops first now (and_last lines rest) count fault)

-- some bytes were read, which are lines and a rest, and so it ended
pub record ReadsLines {H S O F : Type 0} (handles : State H S O → ℕ → List ℕ → State H S O → Type 0) (flushes : State H S O → State H S O → Type 0) (is_flushed : H → Type 0) (stops : State H S O → Option (List ℕ) → State H S O → F → Type 0) (first now : State H S O) (count : ℕ) (left_before left_after : Option (List ℕ)) (result : Result (Unit {0}) (DriveStop (LinesFault F))) : Type 0 where
  pub read : List ℕ
  pub few : length read < 2 ^ 64
  pub consumed : Consumes left_before left_after read
  pub lines : List (List ℕ)
  pub rest : List ℕ
  pub stream : LinesOf read lines rest
  pub ends : EndsReading (EndsLines handles flushes is_flushed stops first now count lines rest (IsAtEnd left_after)) (IsShort rest) (AllHandled (RunsLines handles flushes first) is_flushed now lines count) read result

-- all lines of what was read were handled, and nothing waits to be written
abbrev pub RestsAtLines : {H S O : Type 0} → (State H S O → ℕ → List ℕ → State H S O → Type 0) → (State H S O → State H S O → Type 0) → (H → Type 0) → State H S O → List ℕ → State H S O → Type 0
RestsAtLines handles flushes is_flushed first read now = (lines : List (List ℕ)) × (rest : List ℕ) × LinesOf read lines rest × RunsLines handles flushes first lines now × is_flushed now.own
