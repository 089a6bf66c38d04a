-- How far the lines of a stream were handled. This profile's own.
use Rattle.std.specs.Prelude.{◌≡◌, ◌≢◌, ◌<◌, ◌+◌, ◌⊎◌, ℕ, Bool, true, false, List, [], length, take, drop, Option, Some, None, Result, Ok, Err}
use Rattle.csi_streams.specs.declared.line_buffer.Front.{Front}
use Rattle.csi_streams.specs.declared.line_buffer.Front.TheVariants as front
use Rattle.csi_streams.specs.declared.lines.LinesFault.{LinesFault}
use Rattle.csi_streams.specs.declared.lines.LinesFault.TheVariants as faults
use Rattle.csi_streams.specs.Public.LinesOf.{HasNoNewline, IsShort}
use Rattle.csi_streams.specs.Public.Lining.{HasLine, HasLongLine, IsLineThere}
use Rattle.csi_streams.specs.Public.State.{State}

-- what the bytes that are kept begin with: a line of so many bytes; or they wait for more; or a line that is too long
abbrev pub IsFront : List ℕ → Front → Type 0
IsFront kept (front.Line len) = (len < length kept) × HasLine kept (take len kept) (drop (len + 1) kept)
IsFront kept front.Part = HasNoNewline kept × IsShort kept
IsFront kept front.Long = HasLongLine kept

-- The next line was handled; or none is there, or it is too long, and what waited was written; or it stopped.
abbrev pub HandlesNextLine : {H S O F : Type 0} → (State H S O → ℕ → List ℕ → State H S O → Type 0) → (State H S O → State H S O → Type 0) → (H → Type 0) → (State H S O → Option (List ℕ) → State H S O → F → Type 0) → ℕ → List ℕ → List ℕ → State H S O → State H S O → Result Bool (LinesFault F) → Type 0
HandlesNextLine handles flushes is_flushed stops number old new before now (Ok true) = (line : List ℕ) × HasLine old line new × handles before number line now
HandlesNextLine handles flushes is_flushed stops number old new before now (Ok false) = HasNoNewline old × IsShort old × (new ≡ old) × flushes before now × is_flushed now.own
HandlesNextLine handles flushes is_flushed stops number old new before now (Err (faults.Long at)) = HasLongLine old × (at ≡ number) × flushes before now × is_flushed now.own
HandlesNextLine handles flushes is_flushed stops number old new before now (Err faults.NoMemory) = ⊥
HandlesNextLine handles flushes is_flushed stops number old new before now (Err (faults.Handler fault)) = (line : Option (List ℕ)) × IsLineThere old line × stops before line now fault

-- What is left at the end was handled, with this number, and what waited was written, or nothing is left; or it stopped, at it or behind it.
abbrev pub HandlesLast : {H S O F : Type 0} → (State H S O → ℕ → List ℕ → State H S O → Type 0) → (State H S O → State H S O → Type 0) → (H → Type 0) → (State H S O → Option (List ℕ) → State H S O → F → Type 0) → ℕ → List ℕ → ℕ → State H S O → ℕ → State H S O → Result (Unit {0}) (LinesFault F) → Type 0
HandlesLast {H} {S} {O} handles flushes is_flushed stops number kept count before count' now (Ok done) =
    ((kept ≡ []) × (count' ≡ count) × (now ≡ before)) ⊎ ((mid : State H S O) × (kept ≢ []) × (count' ≡ number) × handles before number kept mid × flushes mid now × is_flushed now.own)
HandlesLast handles flushes is_flushed stops number kept count before count' now (Err (faults.Long at)) = ⊥
HandlesLast handles flushes is_flushed stops number kept count before count' now (Err faults.NoMemory) = ⊥
HandlesLast {H} {S} {O} handles flushes is_flushed stops number kept count before count' now (Err (faults.Handler fault)) =
    ((kept ≢ []) × (count' ≡ count) × stops before (Some kept) now fault) ⊎ ((mid : State H S O) × (kept ≢ []) × (count' ≡ number) × handles before number kept mid × stops mid None now fault)
