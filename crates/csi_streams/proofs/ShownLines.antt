-- One line more.
use Rattle.std.proofs.Common.{◌≡◌, ◌∙◌, sym, ap, refl, ℕ, ◌+◌, List, [], ◌∷◌, ◌++◌, length, Result, Ok, Err, OnOk, arith, length-append, append_assoc}
use Rattle.std.specs.List.{flat_map}
use Rattle.std.specs.Fmt.{decimal}
use Rattle.std.proofs.lemmas.List.{append-nil}
use Rattle.csi_types.specs.declared.capability.Capability.{Capability}
use Rattle.csi_types.specs.Model.Frame.{Frame}
use Rattle.csi_frames.specs.Public.Spelling.{spelling}
use Rattle.csi_types.specs.declared.memory.NoMemory.{NoMemory}
use Rattle.csi_streams.specs.declared.showing.Lines.{Lines}
use Rattle.csi_streams.specs.Private.Handling.{Handles}
use Rattle.csi_streams.specs.Public.Shown.{capability_word, capability_words, frame_words}
use Rattle.csi_streams.specs.Public.FrameLines.{with_blanks, frame_line, lines_from, lines}
use Rattle.csi_streams.specs.Private.Showing.{HasShown, after_blanks}
use Rattle.csi_streams.specs.Public.Streaming.{AreLines}

-- words with blanks between them are the first, and the others with a blank before each
pub with_blanks-after : (word : List ℕ) (words : List (List ℕ)) → with_blanks (word ∷ words) ≡ word ++ after_blanks words
with_blanks-after word [] = sym (append-nil word)
with_blanks-after word (next ∷ others) = ap (λ (more : List ℕ). word ++ 32 ∷ more) (with_blanks-after next others)

-- a line is its place, its words with a blank before each, and a newline
pub line-parts : (place : ℕ) (frame : Frame) → decimal place ++ (after_blanks (frame_words frame) ++ 10 ∷ []) ≡ frame_line place frame
line-parts place frame =
    sym (append_assoc (decimal place) (after_blanks (frame_words frame)) (10 ∷ []))
    ∙ ap (λ (text : List ℕ). text ++ 10 ∷ []) (sym (with_blanks-after (decimal place) (frame_words frame)))

-- each capability with a blank before it, word by word
pub each-capability : (capabilities : List Capability) → flat_map (λ (capability : Capability). 32 ∷ capability_word capability) capabilities ≡ after_blanks (capability_words capabilities)
each-capability [] = refl
each-capability (capability ∷ others) = ap (λ (more : List ℕ). 32 ∷ capability_word capability ++ more) (each-capability others)

-- no frames have no lines
pub lines-none : lines [] ≡ []
unfolding lines
lines-none = refl

-- the lines of frames and one more are those of the frames, and then that of the one, whose place is behind them
lines_from-push : (place : ℕ) (frames : List Frame) (frame : Frame) → lines_from place (frames ++ frame ∷ []) ≡ lines_from place frames ++ frame_line (place + length (flat_map spelling frames)) frame
lines_from-push place [] frame =
    let here : place ≡ place + 0 = omega arith in
    append-nil (frame_line place frame) ∙ ap (λ (at : ℕ). frame_line at frame) here
lines_from-push place (f ∷ frames) frame =
    let behind : ℕ = place + length (spelling f) in
    let here : behind + length (flat_map spelling frames) ≡ place + length (spelling f ++ flat_map spelling frames) = omega (arith, length-append (spelling f) (flat_map spelling frames)) in
    ap (λ (more : List ℕ). frame_line place f ++ more) (lines_from-push behind frames frame ∙ ap (λ (at : ℕ). lines_from behind frames ++ frame_line at frame) here)
    ∙ sym (append_assoc (frame_line place f) (lines_from behind frames) (frame_line (place + length (spelling f ++ flat_map spelling frames)) frame))

-- the same of a whole stream
pub lines-push : (frames : List Frame) (frame : Frame) → lines (frames ++ frame ∷ []) ≡ lines frames ++ frame_line (length (flat_map spelling frames)) frame
unfolding lines
lines-push frames frame =
    let here : 0 + length (flat_map spelling frames) ≡ length (flat_map spelling frames) = omega arith in
    lines_from-push 0 frames frame ∙ ap (λ (at : ℕ). lines_from 0 frames ++ frame_line at frame) here

-- where the line of a frame was appended, in its place, one frame more was shown
pub shown_more : (frames : List Frame) (frame : Frame) (place : ℕ) (shown : Lines) (before after : List ℕ) (result : Result (Unit {0}) NoMemory) → place ≡ length (flat_map spelling frames) → OnOk result (after ≡ before ++ frame_line place frame)
    → OnOk result (Handles HasShown AreLines frames frame shown before after)
shown_more frames frame place shown before after (Ok done) here appended = record {
  handled = tt;
  more = frame_line place frame;
  appended = appended;
  given = λ bytes is.
      ap (λ (front : List ℕ). front ++ frame_line place frame) is
      ∙ ap (λ (at : ℕ). lines frames ++ frame_line at frame) here
      ∙ sym (lines-push frames frame);
}
shown_more frames frame place shown before after (Err fault) here appended = tt
