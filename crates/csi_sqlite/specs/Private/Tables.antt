-- A store in a SQLite database, as contracts see it. This profile's own.
use Rattle.std.specs.Prelude.{ℕ, ⊤}
use Rattle.csi_stores.specs.declared.keep.KeepFault.{KeepFault}
use Rattle.csi_stores.specs.declared.keep.KeepFault.TheVariants.{Device, NoMemory, BadRecord, Full}
use Rattle.csi_stores.specs.Public.Counting.{HasRisen}

-- what a refusal by SQLite is to a keeper: out of memory, or a failure, which is counted
abbrev pub IsCounted : ℕ → ℕ → KeepFault → Type 0
IsCounted before after Device = HasRisen before after
IsCounted before after NoMemory = ⊤
IsCounted before after (BadRecord place) = ⊥
IsCounted before after Full = ⊥
