-- The frame at the front of bytes: what is read is spelled there, what is spelled is read, and the fault that is
-- answered is the first one.
use Rattle.std.proofs.Common.{◌≡◌, ℕ, ◌+◌, ◌-◌, ◌≤◌, Bool, true, false, cond, ltb, List, ◌++◌, length, take, take-add, drop, Result, Ok, Err, refl, sym, ap, subst, ◌∙◌, append_assoc, arith}
use Rattle.std.proofs.lemmas.Bool.{ltb-true, ltb-false, lt-ltb, le-ltb}
use Rattle.std.proofs.lemmas.List.{length-append, length-take, length-drop, take_at, drop_at, take-append-drop}
use Rattle.byteorder.specs.Endian.{big_bytes, big_number}
use Rattle.csi_types.specs.Model.Frame.{Frame}
use Rattle.csi_types.specs.Public.Limits.{IsFrame}
use Rattle.csi_frames.specs.declared.fault.FaultKind.{FaultKind}
use Rattle.csi_frames.specs.declared.fault.FaultKind.TheVariants.{Short, TooLong}
use Rattle.csi_frames.specs.declared.fault.FrameFault.{FrameFault}
use Rattle.csi_frames.specs.declared.fields.FieldStop.{FieldStop}
use Rattle.csi_frames.specs.Public.Spelling.{frame_body, spelling, BeginsWith}
use Rattle.csi_frames.specs.Public.Grammar.{body_grammar}
use Rattle.csi_frames.specs.Public.Fault.{IsStuck, IsFaulty, length_of, no_length, too_long, short, in_body}
use Rattle.csi_frames.specs.Public.Reading.{frame_at, whole_frame, fault, placed_frame, first_frame}
use Rattle.csi_frames.specs.Public.Bytes.{AreBytes}
use Rattle.csi_frames.proofs.Bytes.{AreBytes-take, AreBytes-drop, four-back, four-again, four-front}
use Rattle.csi_frames.proofs.Judge.{judge-IsStuck}
use Rattle.csi_frames.proofs.Lengths.{length-frame_body}
use Rattle.csi_frames.proofs.Whole.{all_of-ok, all_of-err, all_of-spelled, all_of-stuck}

-- ---- a frame at the front

-- the body, where the length and its bytes are there
abbrev body_in : List ℕ → List ℕ
body_in bytes = take (length_of bytes) (drop 4 bytes)

-- the length is there and allowed, and so many bytes follow it
pub record HasBody (bytes : List ℕ) : Type 0 where
  pub has_length : 4 ≤ length bytes
  pub few : length_of bytes ≤ 1280
  pub whole : 4 + length_of bytes ≤ length bytes

-- the body that is there has as many bytes as the length says
length-body_in : (bytes : List ℕ) → HasBody bytes → length (body_in bytes) ≡ length_of bytes
length-body_in bytes h = omega (arith, h.whole, length-take (length_of bytes) (drop 4 bytes), length-drop 4 bytes)

-- where each number of the list is below 256, so is each one of the body
AreBytes-body_in : (bytes : List ℕ) → AreBytes bytes → AreBytes (body_in bytes)
AreBytes-body_in bytes fits = AreBytes-take (length_of bytes) (drop 4 bytes) (AreBytes-drop 4 bytes fits)

-- where the length and the body are there, the first frame is the body as it is read, or its fault
first_frame-body : (bytes : List ℕ) → HasBody bytes → first_frame bytes ≡ placed_frame (4 + length_of bytes) (whole_frame (frame_at (body_in bytes)))
unfolding first_frame
first_frame-body bytes h =
    let a : ltb (length bytes) 4 ≡ false = le-ltb _ _ h.has_length in
    let b : ltb 1280 (big_number 4 bytes) ≡ false = le-ltb _ _ h.few in
    let c : ltb (length bytes) (4 + big_number 4 bytes) ≡ false = le-ltb _ _ h.whole in
    rw (a, b, c) refl

-- the front of bytes that have a body is its length and the body
front-is : (bytes : List ℕ) → AreBytes bytes → HasBody bytes → take (4 + length_of bytes) bytes ≡ big_bytes 4 (length (body_in bytes)) ++ body_in bytes
front-is bytes fits h =
    let four : length (take 4 bytes) ≡ 4 = omega (arith, h.has_length, length-take 4 bytes) in
    let spelled : take 4 bytes ≡ big_bytes 4 (length_of bytes) = sym (four-back (take 4 bytes) four (AreBytes-take 4 bytes fits)) ∙ ap (big_bytes 4) (four-front bytes h.has_length) in
    take-add 4 (length_of bytes) bytes ∙ ap (λ (t : List ℕ). t ++ body_in bytes) (spelled ∙ ap (big_bytes 4) (sym (length-body_in bytes h)))

-- bytes whose body is read as a frame, with nothing left, begin with that frame
begins : (bytes : List ℕ) (frame : Frame) → AreBytes bytes → HasBody bytes → whole_frame (frame_at (body_in bytes)) ≡ Ok frame → BeginsWith bytes frame (4 + length_of bytes)
unfolding spelling
begins bytes frame fits h e =
    let whole = all_of-ok (body_in bytes) frame (AreBytes-body_in bytes fits) e in
    record {
      within = h.whole;
      spelled = record { fits = whole.fits; are = front-is bytes fits h ∙ ap (λ (t : List ℕ). big_bytes 4 (length t) ++ t) whole.are };
    }

-- bytes whose body isn't read as a frame have the fault at which reading stopped, at its place in them
faulty : (bytes : List ℕ) (stop : FieldStop) → AreBytes bytes → HasBody bytes → whole_frame (frame_at (body_in bytes)) ≡ Err stop → IsFaulty bytes stop.kind (4 + length_of bytes - stop.left)
faulty bytes stop fits h e =
    let s = all_of-err (body_in bytes) stop (AreBytes-body_in bytes fits) e in
    let place : 4 + (length (body_in bytes) - stop.left) ≡ 4 + length_of bytes - stop.left = omega (arith, s.within, length-body_in bytes h) in
    subst (λ (p : ℕ). IsFaulty bytes stop.kind p) place (in_body stop.kind (length (body_in bytes) - stop.left) h.whole h.few s.stuck)

-- ---- what is answered is so

-- what reading answered is so of the bytes: they begin with this frame, or have this fault
abbrev pub Answers : List ℕ → Result (Frame × ℕ) FrameFault → Type 0
Answers bytes (Ok read) = BeginsWith bytes read.0 read.1
Answers bytes (Err f) = IsFaulty bytes f.kind f.place

-- what is answered of bytes that have a body is so of them
answers-body : (bytes : List ℕ) → AreBytes bytes → HasBody bytes → (r : Result Frame FieldStop) → whole_frame (frame_at (body_in bytes)) ≡ r → Answers bytes (placed_frame (4 + length_of bytes) r)
answers-body bytes fits h (Ok frame) e = begins bytes frame fits h e
answers-body bytes fits h (Err stop) e = faulty bytes stop fits h e

-- what is answered is so, whichever of the three tests of the length holds
answers-tests : (bytes : List ℕ) (a b c : Bool) → AreBytes bytes → ltb (length bytes) 4 ≡ a → ltb 1280 (length_of bytes) ≡ b → ltb (length bytes) (4 + length_of bytes) ≡ c
    → Answers bytes (cond a (fault Short (length bytes)) (cond b (fault TooLong 0) (cond c (fault Short (length bytes)) (placed_frame (4 + length_of bytes) (whole_frame (frame_at (body_in bytes)))))))
answers-tests bytes true b c fits is_a is_b is_c = no_length (ltb-true _ _ is_a)
answers-tests bytes false true c fits is_a is_b is_c = too_long (ltb-false _ _ is_a) (ltb-true _ _ is_b)
answers-tests bytes false false true fits is_a is_b is_c = short (ltb-false _ _ is_a) (ltb-false _ _ is_b) (ltb-true _ _ is_c)
answers-tests bytes false false false fits is_a is_b is_c =
    answers-body bytes fits (record { has_length = ltb-false _ _ is_a; few = ltb-false _ _ is_b; whole = ltb-false _ _ is_c }) (whole_frame (frame_at (body_in bytes))) refl

-- what reading the first frame answers is so of the bytes
pub first_frame-answers : (bytes : List ℕ) → AreBytes bytes → Answers bytes (first_frame bytes)
unfolding first_frame
first_frame-answers bytes fits = answers-tests bytes _ _ _ fits refl refl refl

-- ---- what is so is answered

-- where the body is stuck, what is answered is that fault, its place counted four bytes further on
faulty-body : (bytes : List ℕ) (kind : FaultKind) (place : ℕ) → AreBytes bytes → HasBody bytes → IsStuck body_grammar (body_in bytes) kind place → first_frame bytes ≡ fault kind (4 + place)
faulty-body bytes kind place fits h s =
    let within : place ≤ length (body_in bytes) = (judge-IsStuck body_grammar (body_in bytes) kind place s).1 in
    let there : 4 + length_of bytes - (length (body_in bytes) - place) ≡ 4 + place = omega (arith, length-body_in bytes h) in
    first_frame-body bytes h ∙ ap (placed_frame (4 + length_of bytes)) (all_of-stuck (body_in bytes) kind place (AreBytes-body_in bytes fits) s) ∙ ap (λ (p : ℕ). fault kind p) there

-- a fault that bytes have is the one that reading them answers
pub first_frame-faulty : (bytes : List ℕ) (kind : FaultKind) (place : ℕ) → AreBytes bytes → IsFaulty bytes kind place → first_frame bytes ≡ fault kind place
unfolding first_frame
first_frame-faulty bytes kind place fits (no_length few) =
    let a : ltb (length bytes) 4 ≡ true = lt-ltb _ _ few in rw a refl
first_frame-faulty bytes kind place fits (too_long long much) =
    let a : ltb (length bytes) 4 ≡ false = le-ltb _ _ long in
    let b : ltb 1280 (big_number 4 bytes) ≡ true = lt-ltb _ _ much in
    rw (a, b) refl
first_frame-faulty bytes kind place fits (short long few less) =
    let a : ltb (length bytes) 4 ≡ false = le-ltb _ _ long in
    let b : ltb 1280 (big_number 4 bytes) ≡ false = le-ltb _ _ few in
    let c : ltb (length bytes) (4 + big_number 4 bytes) ≡ true = lt-ltb _ _ less in
    rw (a, b, c) refl
first_frame-faulty bytes kind place fits (in_body k p whole few s) = faulty-body bytes k p fits (record { has_length = omega arith; few = few; whole = whole }) s

-- bytes that begin with a frame are its spelling and a rest, and the count is that of the length and the body
spelled-front : (bytes : List ℕ) (frame : Frame) (n : ℕ) → BeginsWith bytes frame n → (bytes ≡ spelling frame ++ drop n bytes) × (n ≡ 4 + length (frame_body frame))
unfolding spelling
spelled-front bytes frame n b = (
  sym (take-append-drop n bytes) ∙ ap (λ (t : List ℕ). t ++ drop n bytes) b.spelled.are,
  omega (arith, b.within, length-take n bytes, ap length b.spelled.are, length-append (big_bytes 4 (length (frame_body frame))) (frame_body frame)),
)

-- bytes that begin with a length and a body
record BeginsSo (bytes body : List ℕ) : Type 0 where
  length_is : length_of bytes ≡ length body
  body_is : body_in bytes ≡ body
  has : HasBody bytes

-- a body within the limit, with its length before it and a rest behind it, is the body of these bytes
begins_so : (body rest : List ℕ) → length body ≤ 1280 → BeginsSo (big_bytes 4 (length body) ++ (body ++ rest)) body
begins_so body rest few =
    let bytes : List ℕ = big_bytes 4 (length body) ++ (body ++ rest) in
    let counted : length_of bytes ≡ length body = four-again (length body) (body ++ rest) (omega arith) in
    let total : length bytes ≡ 4 + (length body + length rest) = omega (arith, length-append (big_bytes 4 (length body)) (body ++ rest), length-append body rest) in
    let after : drop 4 bytes ≡ body ++ rest = drop_at (big_bytes 4 (length body)) (body ++ rest) 4 refl in
    record {
      length_is = counted;
      body_is = ap (λ (k : ℕ). take k (drop 4 bytes)) counted ∙ ap (take (length body)) after ∙ take_at body rest (length body) refl;
      has = record { has_length = omega arith; few = omega arith; whole = omega arith };
    }

-- the length and the body of a frame within its limits, with a rest behind them, are read as that frame
first_frame-spelled : (frame : Frame) (rest : List ℕ) → IsFrame frame → first_frame (big_bytes 4 (length (frame_body frame)) ++ (frame_body frame ++ rest)) ≡ Ok (frame, 4 + length (frame_body frame))
first_frame-spelled frame rest fits =
    let bytes : List ℕ = big_bytes 4 (length (frame_body frame)) ++ (frame_body frame ++ rest) in
    let b = begins_so (frame_body frame) rest (omega (arith, length-frame_body frame fits)) in
    first_frame-body bytes b.has
    ∙ ap (λ (t : List ℕ). placed_frame (4 + length_of bytes) (whole_frame (frame_at t))) b.body_is
    ∙ ap (placed_frame (4 + length_of bytes)) (all_of-spelled frame fits)
    ∙ ap (λ (k : ℕ). Ok (frame, 4 + k)) b.length_is

-- a frame with which bytes begin is the one that reading them answers, with its count
pub first_frame-begins : (bytes : List ℕ) (frame : Frame) (n : ℕ) → BeginsWith bytes frame n → first_frame bytes ≡ Ok (frame, n)
unfolding spelling
first_frame-begins bytes frame n b =
    let p = spelled-front bytes frame n b in
    let body = frame_body frame in
    let grouped : bytes ≡ big_bytes 4 (length body) ++ (body ++ drop n bytes) = p.0 ∙ append_assoc (big_bytes 4 (length body)) body (drop n bytes) in
    ap first_frame grouped ∙ first_frame-spelled frame (drop n bytes) b.spelled.fits ∙ ap (λ (k : ℕ). Ok (frame, k)) (sym p.1)
