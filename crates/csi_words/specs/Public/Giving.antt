-- A text that is written out. This profile's own.
use Rattle.std.specs.Prelude.{◌≡◌, ℕ, List, Option}
use Rattle.std.specs.Io.KnownBytes.{Appends}
use Rattle.csi_stores.specs.Public.Counting.{HasRisen}
use Rattle.csi_stores.specs.Public.Writing.{WritesFront}
use Rattle.csi_streams.specs.declared.ending.Ending.{Ending}
use Rattle.csi_streams.specs.declared.ending.Ending.TheVariants.{Done, Device}

-- it was written whole, or a front of it where the writer failed
abbrev pub GivesText : Option (List ℕ) → Option (List ℕ) → ℕ → ℕ → List ℕ → Ending → Type 0
GivesText had has before after text Done = Appends had has text × (after ≡ before)
GivesText had has before after text Device = WritesFront had has text × HasRisen before after
GivesText had has before after text _ = ⊥
