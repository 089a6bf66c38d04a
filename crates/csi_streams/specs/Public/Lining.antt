-- How far the lines of a stream were handled. This profile's own.
use Rattle.std.specs.Prelude.{◌≡◌, ◌+◌, ◌<◌, ◌^◌, ◌++◌, ℕ, List, [], ◌∷◌, length, Option, Some, None}
use Rattle.std.specs.List.{flat_map, AllByRecursion}
use Rattle.csi_streams.specs.declared.lines.Lines.{Lines}
use Rattle.csi_streams.specs.declared.lines.LinesFault.{LinesFault}
use Rattle.csi_streams.specs.declared.lines.LinesFault.TheVariants as faults
use Rattle.csi_streams.specs.Public.LinesOf.{HasNoNewline, with_newline, IsShort}
use Rattle.csi_streams.specs.Public.State.{State}

-- From the first state these lines, none of them too long, handled one after another, led to this one; now and then what waited was written.
pub data RunsLines {H S O : Type 0} (handles : State H S O → ℕ → List ℕ → State H S O → Type 0) (flushes : State H S O → State H S O → Type 0) (first : State H S O) : List (List ℕ) → State H S O → Type 0 where
  no_line : RunsLines handles flushes first [] first
  line_handled : (lines : List (List ℕ)) (now : State H S O) (line : List ℕ) (next : State H S O) → RunsLines handles flushes first lines now → IsShort line → handles now (length lines + 1) line next → RunsLines handles flushes first (lines ++ line ∷ []) next
  lines_flushed : (lines : List (List ℕ)) (now next : State H S O) → RunsLines handles flushes first lines now → flushes now next → RunsLines handles flushes first lines next

-- the state of what handles the lines
abbrev pub inner_of_lines : {H S O : Type 0} → State (Lines H) S O → State H S O
inner_of_lines state = record { own = state.own.handler; store = state.store; out = state.out }

-- These bytes were fed, and the lines that were taken off their front were handled.
pub record ReachesLines {H S O : Type 0} (handles : State H S O → ℕ → List ℕ → State H S O → Type 0) (flushes : State H S O → State H S O → Type 0) (first : State (Lines H) S O) (fed : List ℕ) (now : State (Lines H) S O) : Type 0 where
  pub few : length fed < 2 ^ 64
  pub done : List (List ℕ)
  pub each : AllByRecursion HasNoNewline done
  pub whole : fed ≡ flat_map with_newline done ++ now.own.buffer
  pub counted : now.own.count ≡ length done
  pub runs : RunsLines handles flushes (inner_of_lines first) done (inner_of_lines now)

-- the same; what is kept waits for more, and nothing waits to be written
pub record RestsLines {H S O : Type 0} (handles : State H S O → ℕ → List ℕ → State H S O → Type 0) (flushes : State H S O → State H S O → Type 0) (is_flushed : H → Type 0) (first : State (Lines H) S O) (fed : List ℕ) (now : State (Lines H) S O) : Type 0 where
  pub reached : ReachesLines handles flushes first fed now
  pub waits : HasNoNewline now.own.buffer
  pub short : IsShort now.own.buffer
  pub flushed : is_flushed now.own.handler

-- a line that isn't too long, and its newline, stand at the front of what is kept
abbrev pub HasLine : List ℕ → List ℕ → List ℕ → Type 0
HasLine kept line behind = (kept ≡ with_newline line ++ behind) × HasNoNewline line × IsShort line

-- what is kept begins with more bytes than a line may have, and no newline is among them
abbrev pub HasLongLine : List ℕ → Type 0
HasLongLine kept = (line behind : List ℕ) × (kept ≡ line ++ behind) × HasNoNewline line × (65536 < length line)

-- the next line, if it stops there
abbrev pub IsLineThere : List ℕ → Option (List ℕ) → Type 0
IsLineThere kept None = Unit {0}
IsLineThere kept (Some line) = (behind : List ℕ) × HasLine kept line behind

-- Why it stopped in these bytes, behind those that were fed and in a state that was reached before: the next line is too long, and what
-- waited was written; or there was no memory for a piece; or what handles the lines stopped.
abbrev pub StopsBehindLines : {H S O F : Type 0} → (State H S O → State H S O → Type 0) → (H → Type 0) → (State H S O → Option (List ℕ) → State H S O → F → Type 0) → List ℕ → List ℕ → State (Lines H) S O → State (Lines H) S O → LinesFault F → Type 0
StopsBehindLines flushes is_flushed stops bytes fed before now (faults.Long number) = (bytes ≡ fed) × HasLongLine before.own.buffer × (number ≡ before.own.count + 1) × flushes (inner_of_lines before) (inner_of_lines now) × is_flushed now.own.handler
StopsBehindLines flushes is_flushed stops bytes fed before now faults.NoMemory = (piece : List ℕ) × (bytes ≡ fed ++ piece) × (inner_of_lines now ≡ inner_of_lines before) × is_flushed now.own.handler
StopsBehindLines flushes is_flushed stops bytes fed before now (faults.Handler fault) = (line : Option (List ℕ)) × (bytes ≡ fed) × IsLineThere before.own.buffer line × stops (inner_of_lines before) line (inner_of_lines now) fault

-- it stopped so
pub record StopsInLines {H S O F : Type 0} (handles : State H S O → ℕ → List ℕ → State H S O → Type 0) (flushes : State H S O → State H S O → Type 0) (is_flushed : H → Type 0) (stops : State H S O → Option (List ℕ) → State H S O → F → Type 0) (first : State (Lines H) S O) (bytes : List ℕ) (now : State (Lines H) S O) (fault : LinesFault F) : Type 0 where
  pub fed : List ℕ
  pub before : State (Lines H) S O
  pub reached : ReachesLines handles flushes first fed before
  pub counted : now.own.count ≡ before.own.count
  pub behind : StopsBehindLines flushes is_flushed stops bytes fed before now fault
