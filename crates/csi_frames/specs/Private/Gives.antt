-- What a function that reads returned, seen by view, with the bytes that it left, is what reading gives.
use Rattle.std.specs.Prelude.{◌≡◌, Result, Ok, Err}

-- The same where nothing is left to be read.
abbrev pub GivesWhole : {X Y E : Type 0} → (X → Y) → Result X E → Result Y E → Type 0
GivesWhole view (Ok x) read = read ≡ Ok (view x)
GivesWhole view (Err error) read = read ≡ Err error
