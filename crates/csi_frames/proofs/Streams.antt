-- The frames that a splitter gives are those of the stream.
use Rattle.std.proofs.Common.{◌≡◌, ◌≢◌, ℕ, ◌+◌, ◌≤◌, List, [], ◌∷◌, ◌++◌, length, take, drop, Option, Some, None, Result, Ok, Err, refl, sym, ap, subst, ◌∙◌, append_assoc, arith, length-append}
use Rattle.std.specs.List.{flat_map, AllByRecursion}
use Rattle.std.proofs.lemmas.List.{append-nil, append_cancel_left, take-append-drop, take_at, take-append-le, drop-append-le, length-drop}
use Rattle.std.proofs.lemmas.List.Concat.{flat_map-append}
use Rattle.byteorder.specs.Numbers.{big_from-append}
use Rattle.csi_types.specs.Model.Frame.{Frame}
use Rattle.csi_types.specs.Public.Limits.{IsFrame}
use Rattle.csi_frames.specs.declared.fault.FaultKind.{FaultKind}
use Rattle.csi_frames.specs.declared.fault.FaultKind.TheVariants.{Short}
use Rattle.csi_frames.specs.declared.fault.FrameFault.{FrameFault}
use Rattle.csi_frames.specs.Public.Bytes.{AreBytes}
use Rattle.csi_frames.specs.Public.Spelling.{spelling, BeginsWith}
use Rattle.csi_frames.specs.Public.Grammar.{body_grammar}
use Rattle.csi_frames.specs.Public.Fault.{IsStuck, IsFaulty, length_of, no_length, too_long, short, in_body}
use Rattle.csi_frames.specs.Public.Stream.{FramesOf}
use Rattle.csi_frames.specs.Public.Splitting.{Splitting, kept_after, after_next, IsNextFrame}
use Rattle.csi_frames.specs.Public.Cutting.{IsRestLeft, frame_in_answer, Splits, begins, feeds, asks, HasNoFrame}
use Rattle.csi_frames.proofs.Bytes.{AreBytes-back}
use Rattle.csi_frames.proofs.Front.{first_frame-begins, first_frame-faulty}
use Rattle.csi_frames.proofs.Verdicts.{same_frame, no_both}
use Rattle.csi_frames.proofs.Splitting.{size_is}

-- ---- the frames of a stream are one list

-- no frame begins these bytes
abbrev NoFrame : List ℕ → Type 0
NoFrame bytes = (frame : Frame) (n : ℕ) → BeginsWith bytes frame n → ⊥

-- the spelling of a frame and more bytes begin with that frame
spelled_first : (frame : Frame) (more : List ℕ) → IsFrame frame → BeginsWith (spelling frame ++ more) frame (length (spelling frame))
spelled_first frame more fits = record {
  within = omega (arith, length-append (spelling frame) more);
  spelled = record { fits = fits; are = take_at (spelling frame) more (length (spelling frame)) refl };
}

-- bytes that are a frame's and more begin with no other frame
one_first : (f g : Frame) (x y : List ℕ) → IsFrame f → IsFrame g → spelling f ++ x ≡ spelling g ++ y → f ≡ g
one_first f g x y f-fits g-fits e =
    let read = sym (first_frame-begins (spelling f ++ x) f (length (spelling f)) (spelled_first f x f-fits)) in
    let other = first_frame-begins (spelling f ++ x) g (length (spelling g)) (subst (λ (bytes : List ℕ). BeginsWith bytes g (length (spelling g))) (sym e) (spelled_first g y g-fits)) in
    (same_frame f g (length (spelling f)) (length (spelling g)) (read ∙ other)).0

-- bytes are frames, and a rest that begins with none, in one way
unique : (fs gs : List Frame) (x y : List ℕ) → AllByRecursion IsFrame fs → AllByRecursion IsFrame gs → NoFrame x → NoFrame y → flat_map spelling fs ++ x ≡ flat_map spelling gs ++ y → (fs ≡ gs) × (x ≡ y)
unique [] [] x y f-each g-each no-x no-y e = (refl, e)
unique [] (g ∷ gs) x y f-each g-each no-x no-y e =
    absurd (no-x g (length (spelling g)) (subst (λ (bytes : List ℕ). BeginsWith bytes g (length (spelling g))) (sym (e ∙ append_assoc (spelling g) (flat_map spelling gs) y)) (spelled_first g (flat_map spelling gs ++ y) g-each.0)))
unique (f ∷ fs) [] x y f-each g-each no-x no-y e =
    absurd (no-y f (length (spelling f)) (subst (λ (bytes : List ℕ). BeginsWith bytes f (length (spelling f))) (sym (append_assoc (spelling f) (flat_map spelling fs) x) ∙ e) (spelled_first f (flat_map spelling fs ++ x) f-each.0)))
unique (f ∷ fs) (g ∷ gs) x y f-each g-each no-x no-y e =
    let both : spelling f ++ (flat_map spelling fs ++ x) ≡ spelling g ++ (flat_map spelling gs ++ y) =
    sym (append_assoc (spelling f) (flat_map spelling fs) x) ∙ e ∙ append_assoc (spelling g) (flat_map spelling gs) y in
    let same : f ≡ g = one_first f g (flat_map spelling fs ++ x) (flat_map spelling gs ++ y) f-each.0 g-each.0 both in
    let rest : flat_map spelling fs ++ x ≡ flat_map spelling gs ++ y =
    append_cancel_left (spelling f) (flat_map spelling fs ++ x) (flat_map spelling gs ++ y) (both ∙ ap (λ (h : Frame). spelling h ++ (flat_map spelling gs ++ y)) (sym same)) in
    let others = unique fs gs x y f-each.1 g-each.1 no-x no-y rest in
    (ap (λ (h : Frame). h ∷ fs) same ∙ ap (λ (hs : List Frame). g ∷ hs) others.0, others.1)

-- ---- more bytes don't mend a fault

-- more bytes don't change what the first four say
length_of-more : (bytes more : List ℕ) → 4 ≤ length bytes → length_of (bytes ++ more) ≡ length_of bytes
length_of-more bytes more long = big_from-append 4 bytes more long

-- more bytes don't change a body that is there
body-more : (bytes more : List ℕ) → 4 ≤ length bytes → 4 + length_of bytes ≤ length bytes → take (length_of (bytes ++ more)) (drop 4 (bytes ++ more)) ≡ take (length_of bytes) (drop 4 bytes)
body-more bytes more long whole =
    ap (λ (n : ℕ). take n (drop 4 (bytes ++ more))) (length_of-more bytes more long)
    ∙ ap (take (length_of bytes)) (drop-append-le 4 bytes more long)
    ∙ take-append-le (length_of bytes) (drop 4 bytes) more (omega (arith, length-drop 4 bytes))

-- a fault other than Short stays the same, with the same place, whatever bytes follow
faulty-more : (bytes more : List ℕ) (kind : FaultKind) (place : ℕ) → kind ≢ Short → IsFaulty bytes kind place → IsFaulty (bytes ++ more) kind place
faulty-more bytes more kind place other (no_length few) = absurd (other refl)
faulty-more bytes more kind place other (too_long long much) =
    too_long (omega (arith, length-append bytes more)) (omega (arith, length_of-more bytes more long))
faulty-more bytes more kind place other (short long few less) = absurd (other refl)
faulty-more bytes more kind place other (in_body k p whole few s) =
    let long : 4 ≤ length bytes = omega arith in
    let same = length_of-more bytes more long in
    in_body k p (omega (arith, same, length-append bytes more)) (omega (arith, same))
    (subst (λ (b : List ℕ). IsStuck body_grammar b k p) (sym (body-more bytes more long whole)) s)

-- ---- where a splitter stands in its stream

-- what was fed and not kept: nothing, unless the kept bytes are at fault
abbrev IsDropped : Option FrameFault → List ℕ → List ℕ → Type 0
IsDropped None kept dropped = dropped ≡ []
IsDropped (Some fault) kept dropped = (fault.kind ≢ Short) × IsFaulty kept fault.kind fault.place

-- the stream is the frames that were given, what is kept, and what was fed and not kept
record Stands (stream : List ℕ) (given : List Frame) (fault : Option FrameFault) (kept : List ℕ) : Type 0 where
  dropped : List ℕ
  whole : stream ≡ flat_map spelling given ++ (kept ++ dropped)
  each : AllByRecursion IsFrame given
  is_dropped : IsDropped fault kept dropped

-- a piece that is fed is kept, or dropped after a fault, and the stream has it at its end
stands-feed : (stream piece : List ℕ) (given : List Frame) (fault : Option FrameFault) (kept : List ℕ) → Stands stream given fault kept → Stands (stream ++ piece) given fault (kept_after fault kept piece)
stands-feed stream piece given None kept s = record {
  dropped = [];
  whole =
      ap (λ (bytes : List ℕ). bytes ++ piece) (s.whole ∙ ap (λ (bytes : List ℕ). flat_map spelling given ++ (kept ++ bytes)) s.is_dropped ∙ ap (λ (bytes : List ℕ). flat_map spelling given ++ bytes) (append-nil kept))
      ∙ append_assoc (flat_map spelling given) kept piece
      ∙ ap (λ (bytes : List ℕ). flat_map spelling given ++ bytes) (sym (append-nil (kept ++ piece)));
  each = s.each;
  is_dropped = refl;
}
stands-feed stream piece given (Some fault) kept s = record {
  dropped = s.dropped ++ piece;
  whole =
      ap (λ (bytes : List ℕ). bytes ++ piece) s.whole
      ∙ append_assoc (flat_map spelling given) (kept ++ s.dropped) piece
      ∙ ap (λ (bytes : List ℕ). flat_map spelling given ++ bytes) (append_assoc kept s.dropped piece);
  each = s.each;
  is_dropped = s.is_dropped;
}

-- frames within their limits, and one more within its limits, are all within them
each-push : (frames : List Frame) (frame : Frame) → AllByRecursion IsFrame frames → IsFrame frame → AllByRecursion IsFrame (frames ++ frame ∷ [])
each-push [] frame each fits = (fits, tt)
each-push (f ∷ frames) frame each fits = (each.0, each-push frames frame each.1 fits)

-- nothing is given
stands-none : (stream : List ℕ) (given : List Frame) (fault : Option FrameFault) (kept : List ℕ) → Stands stream given fault kept → Stands stream (given ++ []) fault kept
stands-none stream given fault kept s = subst (λ (gs : List Frame). Stands stream gs fault kept) (sym (append-nil given)) s

-- a frame that is given is taken off what is kept, and the stream stays
stands-frame : (stream : List ℕ) (given : List Frame) (kept : List ℕ) (frame : Frame) → Stands stream given None kept → BeginsWith kept frame (length (spelling frame)) → Stands stream (given ++ frame ∷ []) None (drop (length (spelling frame)) kept)
stands-frame stream given kept frame s b =
    let n = length (spelling frame) in
    let parted : kept ≡ spelling frame ++ drop n kept = sym (take-append-drop n kept) ∙ ap (λ (front : List ℕ). front ++ drop n kept) b.spelled.are in
    let pushed : flat_map spelling (given ++ frame ∷ []) ≡ flat_map spelling given ++ spelling frame = flat_map-append spelling given (frame ∷ []) ∙ ap (λ (more : List ℕ). flat_map spelling given ++ more) (append-nil (spelling frame)) in
    record {
      dropped = s.dropped;
      whole =
          s.whole
          ∙ ap (λ (bytes : List ℕ). flat_map spelling given ++ (bytes ++ s.dropped)) parted
          ∙ ap (λ (bytes : List ℕ). flat_map spelling given ++ bytes) (append_assoc (spelling frame) (drop n kept) s.dropped)
          ∙ sym (append_assoc (flat_map spelling given) (spelling frame) (drop n kept ++ s.dropped))
          ∙ ap (λ (bytes : List ℕ). bytes ++ (drop n kept ++ s.dropped)) (sym pushed);
      each = each-push given frame s.each b.spelled.fits;
      is_dropped = s.is_dropped;
    }

-- the same as `Stands`, by what a splitter shows
abbrev StandsSo : List ℕ → List Frame → Splitting → Type 0
StandsSo stream given s = Stands stream given s.fault s.kept

-- whatever the splitter answers to the next call, it still stands in its stream as it shows
stands-next : (stream : List ℕ) (given : List Frame) (kept : List ℕ) (taken : ℕ) (fault : Option FrameFault) (answer : Result (Option Frame) FrameFault) → Stands stream given fault kept → IsNextFrame fault kept answer
    → StandsSo stream (given ++ frame_in_answer answer) (after_next (record { kept = kept; taken = taken; fault = fault }) answer)
stands-next stream given kept taken None (Ok (Some frame)) s found = stands-frame stream given kept frame s found
stands-next stream given kept taken None (Ok None) s found = stands-none stream given None kept s
stands-next stream given kept taken None (Err f) s found =
    stands-none stream given (Some f) kept (record { dropped = s.dropped; whole = s.whole; each = s.each; is_dropped = found })
stands-next stream given kept taken (Some g) (Ok answer) s found = absurd cc
stands-next stream given kept taken (Some g) (Err f) s found =
    let same : g ≡ f = cc in
    stands-none stream given (Some f) kept (subst (λ (h : FrameFault). Stands stream given (Some h) kept) same s)

-- a splitter that was fed a stream in any pieces, and gave these frames, stands in that stream as it shows
stands : (stream : List ℕ) (given : List Frame) (s : Splitting) → Splits stream given s → StandsSo stream given s
stands stream given s begins = record { dropped = []; whole = refl; each = tt; is_dropped = refl }
stands stream given s (feeds before piece _ t run) = stands-feed before piece given t.fault t.kept (stands before given t run)
stands stream given s (asks _ before t answer run found) = stands-next stream before t.kept t.taken t.fault answer (stands stream before t run) found

-- ---- nothing more is given

-- where a splitter would give no frame, none begins what is kept and what was dropped behind it
no_more : (fault : Option FrameFault) (kept dropped : List ℕ) → AreBytes (kept ++ dropped) → IsDropped fault kept dropped → ((frame : Frame) → IsNextFrame fault kept (Ok (Some frame)) → ⊥) → NoFrame (kept ++ dropped)
no_more None kept dropped fits nothing none frame n b =
    let here : BeginsWith kept frame n = subst (λ (bytes : List ℕ). BeginsWith bytes frame n) (ap (λ (bytes : List ℕ). kept ++ bytes) nothing ∙ append-nil kept) b in
    none frame (subst (BeginsWith kept frame) (size_is kept frame n here) here)
no_more (Some f) kept dropped fits faulty none frame n b =
    no_both frame n f.kind f.place (sym (first_frame-begins (kept ++ dropped) frame n b) ∙ first_frame-faulty (kept ++ dropped) f.kind f.place fits (faulty-more kept dropped f.kind f.place faulty.0 faulty.1))

-- what is left of the stream, as the splitter shows it
left-is : (fault : Option FrameFault) (kept dropped rest : List ℕ) → IsDropped fault kept dropped → kept ++ dropped ≡ rest → IsRestLeft fault kept rest
left-is None kept dropped rest nothing is = sym (append-nil kept) ∙ ap (λ (bytes : List ℕ). kept ++ bytes) (sym nothing) ∙ is
left-is (Some f) kept dropped rest faulty is = subst (λ (bytes : List ℕ). IsFaulty bytes f.kind f.place) is (faulty-more kept dropped f.kind f.place faulty.0 faulty.1)

-- what a splitter gave until it gives no more are the frames of the stream, and the rest of the stream is left
pub given_are : (stream rest : List ℕ) (given frames : List Frame) (s : Splitting) → AreBytes stream → Splits stream given s → HasNoFrame s → FramesOf stream frames rest → (given ≡ frames) × IsRestLeft s.fault s.kept rest
given_are stream rest given frames s fits run none of =
    let at = stands stream given s run in
    let behind : AreBytes (s.kept ++ at.dropped) = AreBytes-back (flat_map spelling given) (s.kept ++ at.dropped) (subst AreBytes at.whole fits) in
    let same = unique given frames (s.kept ++ at.dropped) rest at.each of.each (no_more s.fault s.kept at.dropped behind at.is_dropped none) of.longest (sym at.whole ∙ of.whole) in
    (same.0, left-is s.fault s.kept at.dropped rest at.is_dropped same.1)
