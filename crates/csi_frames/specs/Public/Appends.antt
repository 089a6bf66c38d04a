-- Bytes appended to a vector, which may have to grow for them.
use Rattle.std.specs.Prelude.{◌≡◌, ◌≤◌, ◌+◌, ℕ, List, ◌++◌, length, Result, OnOk, OnErr, IsOk}
use Rattle.std.specs.Global.{Vec}
use Rattle.std.specs.Vec.{vec_len, vec_capacity}

-- These bytes stand behind what was there, and what they spell is within its limits; or the growth was refused, and what was
-- there is left. With spare capacity for them nothing is refused, and the capacity never shrinks.
pub record Appends {E : Type 0} (old new : Vec ℕ) (bytes : List ℕ) (limits : Type 0) (result : Result (Unit {0}) E) : Type 0 where
  pub appends : OnOk result (new.items ≡ old.items ++ bytes)
  pub fits : OnOk result limits
  pub err : OnErr result (new.items ≡ old.items)
  pub spare : vec_len old + length bytes ≤ vec_capacity old → IsOk result
  pub capacity : vec_capacity old ≤ vec_capacity new
