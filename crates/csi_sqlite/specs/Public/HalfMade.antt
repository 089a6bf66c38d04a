-- A new file that got its first page in part, and lost its log. This profile's own.
use Rattle.std.specs.Prelude.{◌≡◌, ◌<◌, ◌≤◌, ℕ, List, [], length, slice_index}

-- a page at most, which begins with a byte of 0, and no log
pub record IsHalfMade (db log : List ℕ) : Type 0 where
  pub some : 1 < length db
  pub page : length db ≤ 4096
  pub gate : slice_index db 0 ≡ 0
  pub unlogged : log ≡ []
