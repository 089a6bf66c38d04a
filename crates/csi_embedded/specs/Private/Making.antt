-- Plugins that are made: new ones, and those of a record's bytes; and what the store has to be given of them. This profile's own.
use Rattle.std.specs.Prelude.{◌≡◌, ◌⊎◌, ℕ, Option, Some, None, Result, Ok, Err}
use Rattle.csi_records.specs.declared.fault.RecordStop.{RecordStop}
use Rattle.csi_records.specs.declared.fault.RecordStop.TheVariants as stops
use Rattle.csi_embedded.specs.declared.ending.CallEnding.{CallEnding}
use Rattle.csi_embedded.specs.declared.ending.CallEnding.TheVariants.{NoMemory, BadRecord}
use Rattle.csi_embedded.specs.declared.embedded.Embedded.{Embedded}
use Rattle.csi_embedded.specs.Public.Endings.{ending_number}

-- ---- those of a record

-- how a call ends for which no record was read
abbrev pub IsEndingOf : RecordStop → CallEnding → Type 0
IsEndingOf (stops.BadRecord place) ending = ending ≡ BadRecord
IsEndingOf stops.NoMemory ending = ending ≡ NoMemory

-- ---- the same of handles

-- the handle has what was made, and the number is that of the ending; or it is empty, where none was made or memory ran out
abbrev pub GivesHandle : Result (Embedded × CallEnding) CallEnding → Option Embedded → ℕ → Type 0
GivesHandle (Ok made) new number = ((new ≡ Some made.0) × (number ≡ ending_number made.1)) ⊎ ((new ≡ None) × (number ≡ 1))
GivesHandle (Err ending) new number = (new ≡ None) × (number ≡ ending_number ending)
