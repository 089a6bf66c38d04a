-- Values written behind other bytes.
use Rattle.std.specs.Prelude.{◌≡◌, ℕ, List, ◌++◌, Result, OnOk}

-- unless memory was refused, these bytes stand behind what was there, and what they spell is within its limits
pub record Writes {E : Type 0} (old new bytes : List ℕ) (limits : Type 0) (result : Result (Unit {0}) E) : Type 0 where
  pub written : OnOk result (new ≡ old ++ bytes)
  pub fits : OnOk result limits
