-- Which failures of a reader and a writer an end of a stream tells. This profile's own.
use Rattle.std.specs.Prelude.{◌≡◌, ℕ, Result, Ok, Err}
use Rattle.csi_stores.specs.Public.Counting.{HasRisen}
use Rattle.csi_streams.specs.declared.streaming.StreamFault.{StreamFault}
use Rattle.csi_streams.specs.declared.streaming.StreamFault.TheVariants as stops

-- the reader failed at Input, and at no other end
abbrev pub TellsReader : {A : Type 0} → ℕ → ℕ → Result A StreamFault → Type 0
TellsReader before after (Ok a) = after ≡ before
TellsReader before after (Err stops.Input) = HasRisen before after
TellsReader before after (Err _) = after ≡ before

-- the writer failed at Output, and at no other end
abbrev pub TellsWriter : {A : Type 0} → ℕ → ℕ → Result A StreamFault → Type 0
TellsWriter before after (Ok a) = after ≡ before
TellsWriter before after (Err stops.Output) = HasRisen before after
TellsWriter before after (Err _) = after ≡ before
