-- The lines of a stream of bytes. This profile's own.
use Rattle.std.specs.Prelude.{◌≡◌, ◌≢◌, ◌≤◌, ℕ, List, [], ◌∷◌, ◌++◌, length}
use Rattle.std.specs.List.{flat_map, AllByRecursion}

-- no byte ends a line: 10 is a newline
abbrev pub HasNoNewline : List ℕ → Type 0
HasNoNewline bytes = AllByRecursion (λ (byte : ℕ). byte ≢ 10) bytes

-- a line, and the newline behind it
abbrev pub with_newline : List ℕ → List ℕ
with_newline line = line ++ 10 ∷ []

-- These bytes are lines, a newline behind each, and a rest; a line has no newline in it, and neither has the rest.
pub record LinesOf (bytes : List ℕ) (lines : List (List ℕ)) (rest : List ℕ) : Type 0 where
  pub whole : bytes ≡ flat_map with_newline lines ++ rest
  pub each : AllByRecursion HasNoNewline lines
  pub open_end : HasNoNewline rest

-- where a stream ends with this rest, that is its last line, if it isn't empty
abbrev pub and_last : List (List ℕ) → List ℕ → List (List ℕ)
and_last lines [] = lines
and_last lines (byte ∷ rest) = lines ++ (byte ∷ rest) ∷ []

-- a line isn't too long
abbrev pub IsShort : List ℕ → Type 0
IsShort line = length line ≤ 65536
