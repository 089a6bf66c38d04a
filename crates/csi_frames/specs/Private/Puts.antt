-- Writing into room that is there.
use Rattle.std.specs.Prelude.{◌≡◌, ◌≤◌, ◌+◌, ℕ, List, ◌++◌, length}
use Rattle.std.specs.Global.{Vec}
use Rattle.std.specs.Vec.{vec_len, vec_capacity}

-- n more elements need no memory
abbrev pub HasRoom : Vec ℕ → ℕ → Type 0
HasRoom out n = vec_len out + n ≤ vec_capacity out

-- new is old with these bytes at its end, and no smaller; and what they spell is within its limits
pub record Puts (old new : Vec ℕ) (bytes : List ℕ) (limits : Type 0) : Type 0 where
  pub items : new.items ≡ old.items ++ bytes
  pub len : vec_len new ≡ vec_len old + length bytes
  pub capacity : vec_capacity old ≤ vec_capacity new
  pub fits : limits
