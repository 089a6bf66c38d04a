-- Values of JSON, read as the parts of a schedule. Nothing is read where a value isn't what is asked for. This profile's own.
use Rattle.std.specs.Prelude.{◌≡◌, List, [], ◌∷◌, Option, Some, None, Result, Ok, Err}
use Rattle.serde_json.specs.Data.{Data}
use Rattle.csi_json.specs.declared.values.Flaw.{Flaw}
use Rattle.csi_json.specs.declared.values.Flaw.TheVariants.{Bad, NoMemory}

-- ---- what functions answer

-- What a function answered, as it is shown, is what is read; where it is out of memory nothing is said.
abbrev pub Reads : {A B : Type 0} → (A → B) → Result A Flaw → Option B → Type 0
Reads shown (Ok value) read = read ≡ Some (shown value)
Reads shown (Err Bad) read = read ≡ None
Reads shown (Err NoMemory) read = Unit {0}

-- Memory was refused only where this holds: what is at fault without it is told as that.
abbrev pub WantsOnly : {A : Type 0} → Result A Flaw → Type 0 → Type 0
WantsOnly (Ok value) where_so = Unit {0}
WantsOnly (Err Bad) where_so = Unit {0}
WantsOnly (Err NoMemory) where_so = where_so

-- an array that has items
abbrev pub HasItems : Option (List Data) → Type 0
HasItems None = ⊥
HasItems (Some []) = ⊥
HasItems (Some (d ∷ ds)) = Unit {0}
