-- Answers, line after line; and how many lines there may be.
use Rattle.std.proofs.Common.{inl, inr, ap, ℕ, ◌≤◌, List, [], ◌∷◌, length, arith, length-append}
use Rattle.std.specs.List.{flat_map}
use Rattle.csi_streams.specs.Public.LinesOf.{LinesOf, with_newline, and_last}
use Rattle.csi_streams.proofs.LineStreams.{lines_few}
pub use Rattle.csi_streams.proofs.GrowingAnswers.{answers-append}
use Rattle.csi_orchestration.specs.Public.LinesServing.{AreThere}

-- there are no more lines than bytes, the last one too
pub all-few : (bytes : List ℕ) (lines : List (List ℕ)) (rest : List ℕ) → LinesOf bytes lines rest → length (and_last lines rest) ≤ length bytes
all-few bytes lines [] stream = omega (arith, lines_few lines, ap length stream.whole, length-append (flat_map with_newline lines) [])
all-few bytes lines (b ∷ rest) stream =
    omega (arith, lines_few lines, ap length stream.whole, length-append (flat_map with_newline lines) (b ∷ rest), length-append lines ((b ∷ rest) ∷ []))

-- nor of those that there are
pub there-few : (at_end : Type 0) (bytes : List ℕ) (lines : List (List ℕ)) (rest : List ℕ) (there : List (List ℕ)) → LinesOf bytes lines rest → AreThere at_end lines rest there → length there ≤ length bytes
there-few at_end bytes lines rest there stream (inl are) = omega (arith, ap length are, lines_few lines, ap length stream.whole, length-append (flat_map with_newline lines) rest)
there-few at_end bytes lines rest there stream (inr are) = omega (arith, ap length are.1, all-few bytes lines rest stream)
