-- The frames of a stream: they are the same whoever reads them.
use Rattle.std.proofs.Common.{◌≡◌, ◌∙◌, inl, inr, sym, ap, subst, refl, ℕ, ◌<◌, ◌≤◌, zero, suc, List, [], ◌∷◌, ◌++◌, length, drop, arith, length-append, length-drop, append_assoc, slice_index}
use Rattle.std.specs.List.{flat_map, AllByRecursion}
use Rattle.std.proofs.lemmas.List.{append-nil, append_cancel_left, take-append-drop}
use Rattle.std.proofs.Math.Seq.{take-append_seam}
use Rattle.csi_types.specs.Model.Frame.{Frame}
use Rattle.csi_types.specs.Public.Limits.{IsFrame}
use Rattle.csi_frames.specs.Public.Spelling.{spelling, frame_body, BeginsWith}
use Rattle.csi_frames.specs.Public.Stream.{FramesOf}
use Rattle.csi_frames.specs.Public.Bytes.{AreBytes}
use Rattle.csi_frames.proofs.Bytes.{AreBytes-drop}
use Rattle.csi_frames.proofs.Splitting.{size_is}
use Rattle.csi_frames.proofs.Front.{first_frame-begins}
use Rattle.csi_frames.proofs.Verdicts.{one_reading_of, same_frame as one_found}

-- two frames that begin the same bytes are one
same_frame : (bytes : List ℕ) (f g : Frame) (n m : ℕ) → BeginsWith bytes f n → BeginsWith bytes g m → f ≡ g
same_frame bytes f g n m first second = (one_found f g n m (sym (first_frame-begins bytes f n first) ∙ first_frame-begins bytes g m second)).0

-- two lists of bytes, one after the other, are a list of bytes
pub AreBytes-both : (xs ys : List ℕ) → AreBytes xs → AreBytes ys → AreBytes (xs ++ ys)
AreBytes-both xs ys first second = λ i. by xs i first
  where
    by : (xs : List ℕ) (i : ℕ) → AreBytes xs → slice_index (xs ++ ys) i < 256
    by [] i are = second i
    by (x ∷ xs) zero are = are 0
    by (x ∷ xs) (suc i) are = by xs i (λ j. are (suc j))

-- a frame's spelling has at least one byte
pub spelling-not-empty : (f : Frame) → 0 < length (spelling f)
unfolding spelling frame_body
spelling-not-empty f = omega (arith, length-append {A = ℕ})

-- there are no more frames than bytes
pub frames_few : (frames : List Frame) → length frames ≤ length (flat_map spelling frames)
frames_few [] = omega arith
frames_few (f ∷ fs) = omega (arith, frames_few fs, spelling-not-empty f, length-append (spelling f) (flat_map spelling fs))

-- bytes that begin with a frame are its spelling and what is behind it
pub splits_at : (bytes : List ℕ) (f : Frame) (n : ℕ) → BeginsWith bytes f n → bytes ≡ spelling f ++ drop n bytes
splits_at bytes f n begins = sym (take-append-drop n bytes) ∙ ap (λ front. front ++ drop n bytes) begins.spelled.are

-- the spelling of a frame, and more bytes, begin with it
begins_so : (f : Frame) (more : List ℕ) → IsFrame f → BeginsWith (spelling f ++ more) f (length (spelling f))
begins_so f more fits = record {
  within = omega (arith, length-append {A = ℕ});
  spelled = record { fits = fits; are = take-append_seam (spelling f) more };
}

-- frames that stand at the front of a stream are its first ones
pub front_of : (done frames : List Frame) (more rest : List ℕ) → AllByRecursion IsFrame done → AllByRecursion IsFrame frames → ((frame : Frame) (n : ℕ) → BeginsWith rest frame n → ⊥) → flat_map spelling done ++ more ≡ flat_map spelling frames ++ rest → (later : List Frame) × (frames ≡ done ++ later)
front_of [] frames more rest done_each each longest whole = (frames, refl)
front_of (d ∷ ds) [] more rest done_each each longest whole =
    let begins : BeginsWith (spelling d ++ (flat_map spelling ds ++ more)) d (length (spelling d)) = begins_so d (flat_map spelling ds ++ more) done_each.0 in
    absurd (longest d (length (spelling d)) (subst (λ bytes. BeginsWith bytes d (length (spelling d))) (sym (append_assoc (spelling d) (flat_map spelling ds) more) ∙ whole) begins))
front_of (d ∷ ds) (f ∷ fs) more rest done_each each longest whole =
    let together : spelling d ++ (flat_map spelling ds ++ more) ≡ spelling f ++ (flat_map spelling fs ++ rest) =
    sym (append_assoc (spelling d) (flat_map spelling ds) more) ∙ whole ∙ append_assoc (spelling f) (flat_map spelling fs) rest in
    let same : d ≡ f = same_frame (spelling d ++ (flat_map spelling ds ++ more)) d f (length (spelling d)) (length (spelling f))
    (begins_so d (flat_map spelling ds ++ more) done_each.0)
    (subst (λ bytes. BeginsWith bytes f (length (spelling f))) (sym together) (begins_so f (flat_map spelling fs ++ rest) each.0)) in
    let others : flat_map spelling ds ++ more ≡ flat_map spelling fs ++ rest =
    append_cancel_left (spelling d) (flat_map spelling ds ++ more) (flat_map spelling fs ++ rest)
    (together ∙ ap (λ g. spelling g ++ (flat_map spelling fs ++ rest)) (sym same)) in
    let front : (later : List Frame) × (fs ≡ ds ++ later) = front_of ds fs more rest done_each.1 each.1 longest others in
    (front.0, ap (λ gs. f ∷ gs) front.1 ∙ ap (λ g. g ∷ (ds ++ front.0)) (sym same))

-- frames that are at most none are none
nothing-more : (later : List Frame) → length later ≤ 0 → later ≡ []
nothing-more [] few = refl
nothing-more (f ∷ fs) few = absurd (omega arith)

-- bytes are frames and a rest in one way
pub one_stream : (bytes : List ℕ) (fs gs : List Frame) (x y : List ℕ) → FramesOf bytes fs x → FramesOf bytes gs y → (fs ≡ gs) × (x ≡ y)
one_stream bytes fs gs x y first second =
    let there = front_of fs gs x y first.each second.each second.longest (sym first.whole ∙ second.whole) in
    let back = front_of gs fs y x second.each first.each first.longest (sym second.whole ∙ first.whole) in
    let none : there.0 ≡ [] = nothing-more there.0 (omega (arith, ap length there.1, ap length back.1, length-append fs there.0, length-append gs back.0)) in
    let same : fs ≡ gs = sym (append-nil fs) ∙ ap (λ (later : List Frame). fs ++ later) (sym none) ∙ sym there.1 in
    (same, append_cancel_left (flat_map spelling fs) x y (sym first.whole ∙ second.whole ∙ ap (λ (hs : List Frame). flat_map spelling hs ++ y) (sym same)))

-- no frame begins where nothing is left
pub none_in_nothing : (bytes : List ℕ) → length bytes ≤ 0 → (frame : Frame) (n : ℕ) → BeginsWith bytes frame n → ⊥
none_in_nothing bytes nothing frame n begins = omega (arith, begins.within, size_is bytes frame n begins, spelling-not-empty frame)

-- each list of bytes is frames and a rest
frames_within : (fuel : ℕ) (bytes : List ℕ) → AreBytes bytes → length bytes ≤ fuel → (frames : List Frame) × (rest : List ℕ) × FramesOf bytes frames rest
frames_within zero bytes are small = ([], bytes, record { whole = refl; each = tt; longest = none_in_nothing bytes small })
frames_within (suc fuel) bytes are small =
    elim (one_reading_of bytes are) [
      | inr fault ↦ ([], bytes, record { whole = refl; each = tt; longest = fault.no_frame })
      | inl found ↦
          let shorter : length (drop found.size bytes) ≤ fuel = omega (arith, length-drop {A = ℕ}, found.begins.within, size_is bytes found.frame found.size found.begins, spelling-not-empty found.frame) in
          let later : (frames : List Frame) × (rest : List ℕ) × FramesOf (drop found.size bytes) frames rest = frames_within fuel (drop found.size bytes) (AreBytes-drop found.size bytes are) shorter in (
            found.frame ∷ later.0,
            later.1,
            record {
              whole = splits_at bytes found.frame found.size found.begins ∙ ap (λ bs. spelling found.frame ++ bs) later.2.whole ∙ sym (append_assoc (spelling found.frame) (flat_map spelling later.0) later.1);
              each = (found.begins.spelled.fits, later.2.each);
              longest = later.2.longest;
            },
          )
    ]

-- the same, without a bound of their count
pub frames_of : (bytes : List ℕ) → AreBytes bytes → (frames : List Frame) × (rest : List ℕ) × FramesOf bytes frames rest
frames_of bytes are = frames_within (length bytes) bytes are (omega arith)
