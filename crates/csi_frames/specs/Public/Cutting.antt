-- What a splitter gives of a stream, in whatever pieces it comes. This profile's own.
use Rattle.std.specs.Prelude.{◌≡◌, ℕ, List, [], ◌∷◌, ◌++◌, Option, Some, None, Result, Ok, Err}
use Rattle.csi_types.specs.Model.Frame.{Frame}
use Rattle.csi_frames.specs.declared.fault.FrameFault.{FrameFault}
use Rattle.csi_frames.specs.Public.Fault.{IsFaulty}
use Rattle.csi_frames.specs.Public.Splitting.{Splitting, new_splitting, after_feed, after_next, IsNextFrame}

-- the frame in an answer
abbrev pub frame_in_answer : Result (Option Frame) FrameFault → List Frame
frame_in_answer (Ok (Some frame)) = frame ∷ []
frame_in_answer (Ok None) = []
frame_in_answer (Err fault) = []

-- The splitter shows this once it was fed this stream, in some pieces, and gave these frames, whenever it was asked for
-- the next one.
pub data Splits : List ℕ → List Frame → Splitting → Type 0 where
  begins : Splits [] [] new_splitting
  feeds : (stream piece : List ℕ) (given : List Frame) (s : Splitting) → Splits stream given s → Splits (stream ++ piece) given (after_feed s piece)
  asks : (stream : List ℕ) (given : List Frame) (s : Splitting) (answer : Result (Option Frame) FrameFault) → Splits stream given s → IsNextFrame s.fault s.kept answer → Splits stream (given ++ frame_in_answer answer) (after_next s answer)

-- it would give no frame now
abbrev pub HasNoFrame : Splitting → Type 0
HasNoFrame s = (frame : Frame) → IsNextFrame s.fault s.kept (Ok (Some frame)) → ⊥

-- Of a stream with this rest the splitter keeps the rest itself, or, once it answered a fault, the fault is the rest's first one.
abbrev pub IsRestLeft : Option FrameFault → List ℕ → List ℕ → Type 0
IsRestLeft None kept rest = kept ≡ rest
IsRestLeft (Some fault) kept rest = IsFaulty rest fault.kind fault.place
