-- The one call of many that fails: so many pass before it, or, where no count is given, none fails. This profile's own.
use Rattle.std.specs.Prelude.{ℕ, ◌-◌, ◌==◌, if◌then◌else◌, Bool, false, Option, Some, None}

-- the next call is that one
abbrev pub is_due : Option ℕ → Bool
is_due None = false
is_due (Some passing) = passing == 0

-- how many pass still after a call: behind the one that failed all do
abbrev pub passing_after_call : Option ℕ → Option ℕ
passing_after_call None = None
passing_after_call (Some passing) = if passing == 0 then None else Some (passing - 1)
