-- What is answered where a store has no list of parts. This profile's own.
use Rattle.std.specs.Prelude.{◌≡◌, ℕ, Result, Ok, Err}
use Rattle.csi_stores.specs.declared.keep.KeepFault.{KeepFault}
use Rattle.csi_stores.specs.declared.keep.KeepFault.TheVariants.{Device, NoMemory, BadRecord, Full}

-- What the answer may be where a store has no list of parts: that, with the place of the first thing that is no part; but the device
-- may fail before, or memory be wanted.
abbrev pub IsForeignFault : ℕ → KeepFault → Type 0
IsForeignFault place Device = Unit {0}
IsForeignFault place NoMemory = Unit {0}
IsForeignFault place (BadRecord at) = at ≡ place
IsForeignFault place Full = ⊥

-- the answer is such a fault
abbrev pub RefusesAt : {A : Type 0} → ℕ → Result A KeepFault → Type 0
RefusesAt place (Ok a) = ⊥
RefusesAt place (Err fault) = IsForeignFault place fault
