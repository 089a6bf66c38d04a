-- What a command does with the bytes of a reader: what it does with the bytes of a file. This profile's own.
use Rattle.std.specs.Prelude.{◌≡◌, ℕ, List, ◌++◌, Option, Result, Ok, Err}
use Rattle.std.specs.Io.KnownBytes.{Consumes, IsAtEnd}
use Rattle.csi_stores.specs.declared.output.WriteFailed.{WriteFailed}
use Rattle.csi_stores.specs.Public.Counting.{HasRisen}
use Rattle.csi_streams.specs.declared.streaming.StreamFault.{StreamFault}
use Rattle.csi_streams.specs.declared.streaming.StreamFault.TheVariants as stops
use Rattle.csi_streams.specs.declared.ending.Ending.{Ending}
use Rattle.csi_streams.specs.declared.ending.Ending.TheVariants as endings

-- how it ends by what the stream came to
abbrev pub ending_of_stream : Result ℕ StreamFault → Ending
ending_of_stream (Ok count) = endings.Done
ending_of_stream (Err (stops.Frame kind place)) = endings.FrameFault kind place
ending_of_stream (Err stops.NoMemory) = endings.Memory
ending_of_stream (Err stops.Input) = endings.Device
ending_of_stream (Err stops.Output) = endings.Device
ending_of_stream (Err stops.Endless) = endings.Endless

-- how it ends by whether it was written
abbrev pub ending_of_written : Result (Unit {0}) WriteFailed → Ending
ending_of_written (Ok done) = endings.Done
ending_of_written (Err failed) = endings.Device

-- these bytes more are there, which were read
pub record HasRead (left_before left_after : Option (List ℕ)) (old new : List ℕ) : Type 0 where
  pub more : List ℕ
  pub appended : new ≡ old ++ more
  pub consumed : Consumes left_before left_after more

-- the reader was read to its end; or it failed, or memory ran out, after some bytes
abbrev pub ReadsWhole : Option (List ℕ) → Option (List ℕ) → ℕ → ℕ → List ℕ → List ℕ → Result (Unit {0}) Ending → Type 0
ReadsWhole left_before left_after before after old new (Ok done) = HasRead left_before left_after old new × IsAtEnd left_after × (after ≡ before)
ReadsWhole left_before left_after before after old new (Err endings.Device) = (read : List ℕ) × Consumes left_before left_after read × HasRisen before after
ReadsWhole left_before left_after before after old new (Err endings.Memory) = (read : List ℕ) × Consumes left_before left_after read × (after ≡ before)
ReadsWhole left_before left_after before after old new (Err _) = ⊥
