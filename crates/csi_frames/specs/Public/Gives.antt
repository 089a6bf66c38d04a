-- What a function that reads returned, seen by view, with the bytes that it left, is what reading gives.
use Rattle.std.specs.Prelude.{◌≡◌, ℕ, List, Result, Ok, Err}
use Rattle.csi_frames.specs.declared.fields.FieldStop.{FieldStop}
use Rattle.csi_frames.specs.declared.fields.Fields.{Fields}

-- the value is the one that is read, and so are the bytes left; or reading stopped at the same fault
abbrev pub Gives : {X Y : Type 0} → (X → Y) → Result X FieldStop → Fields → Result (Y × List ℕ) FieldStop → Type 0
Gives view (Ok x) left read = read ≡ Ok (view x, left.bytes.now)
Gives view (Err stop) left read = read ≡ Err stop
