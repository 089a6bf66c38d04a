-- What was written to a writer. This profile's own.
use Rattle.std.specs.Prelude.{◌≡◌, ℕ, List, ◌++◌, Option, Result}
use Rattle.std.specs.Io.{WritesAtMost}
use Rattle.std.specs.Io.KnownBytes.{Appends, WriteAppends}

-- a front of these bytes was written
pub record WritesFront (before after : Option (List ℕ)) (bytes : List ℕ) : Type 0 where
  pub front : List ℕ
  pub more : List ℕ
  pub parts : bytes ≡ front ++ more
  pub appended : Appends before after front

-- where it is no error, a front of the piece was written, of as many bytes as are told
pub record TakesBytes {E : Type 0} (before after : Option (List ℕ)) (result : Result ℕ E) (piece : List ℕ) : Type 0 where
  pub bound : WritesAtMost result piece
  pub bytes : WriteAppends before after result piece
