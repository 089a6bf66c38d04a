-- The lines that `show` gives of a stream: one for each frame, in order. This profile's own.
use Rattle.std.specs.Prelude.{ℕ, ◌+◌, List, [], ◌∷◌, ◌++◌, length}
use Rattle.std.specs.Fmt.{decimal}
use Rattle.csi_types.specs.Model.Frame.{Frame}
use Rattle.csi_frames.specs.Public.Spelling.{spelling}
use Rattle.csi_streams.specs.Public.Shown.{frame_words}

-- words, with single blanks between them
abbrev pub with_blanks : List (List ℕ) → List ℕ
with_blanks [] = []
with_blanks (word ∷ []) = word
with_blanks (word ∷ next ∷ others) = word ++ 32 ∷ with_blanks (next ∷ others)

-- the line of a frame whose first byte is in this place of the stream
abbrev pub frame_line : ℕ → Frame → List ℕ
frame_line place frame = with_blanks (decimal place ∷ frame_words frame) ++ 10 ∷ []

-- the lines of frames that stand one behind the other, the first of them in this place
abbrev pub lines_from : ℕ → List Frame → List ℕ
lines_from place [] = []
lines_from place (frame ∷ frames) = frame_line place frame ++ lines_from (place + length (spelling frame)) frames

-- the lines of all frames of a stream
unfoldable pub lines : List Frame → List ℕ
lines frames = lines_from 0 frames
