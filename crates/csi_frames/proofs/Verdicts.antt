-- What a decoder answers, from what the reader found.
use Rattle.std.proofs.Common.{◌≡◌, ℕ, List, Result, Ok, Err, ◌⊎◌, inl, inr, refl, sym, ap, subst, ◌∙◌}
use Rattle.csi_types.specs.Model.Frame.{Frame}
use Rattle.csi_frames.specs.declared.fault.FaultKind.{FaultKind}
use Rattle.csi_frames.specs.declared.fault.FrameFault.{FrameFault}
use Rattle.csi_frames.specs.Public.Bytes.{AreBytes}
use Rattle.csi_frames.specs.Public.Decoding.{HasOneFrame, HasOneFault}
use Rattle.csi_frames.specs.Public.Fault.{IsFaulty}
use Rattle.csi_frames.specs.Public.Reading.{fault, first_frame}
use Rattle.csi_frames.specs.Public.Spelling.{BeginsWith}
use Rattle.csi_frames.proofs.Front.{Answers, first_frame-answers, first_frame-faulty, first_frame-begins}

-- the answer to bytes that begin with this frame, of so many bytes
abbrev pub found : Frame → ℕ → Result (Frame × ℕ) FrameFault
found frame n = Ok (frame, n)

-- ---- one answer excludes the others

-- two such answers that are the same have the same frame and count
pub same_frame : (a b : Frame) (m n : ℕ) → found a m ≡ found b n → (a ≡ b) × (m ≡ n)
same_frame a b m n e =
    let same : (a, m) ≡ (b, n) = cc in
    (ap (λ (x : Frame × ℕ). x.0) same, ap (λ (x : Frame × ℕ). x.1) same)

-- two answers that are the same fault have the same kind and place
pub same_fault : (j k : FaultKind) (p q : ℕ) → fault {A = Frame × ℕ} j p ≡ fault k q → (j ≡ k) × (p ≡ q)
same_fault j k p q e =
    let one : FrameFault = record { kind = j; place = p } in
    let same : one ≡ record { kind = k; place = q } = cc in
    (ap (λ (f : FrameFault). f.kind) same, ap (λ (f : FrameFault). f.place) same)

-- no answer is both a frame and a fault
pub no_both : (frame : Frame) (n : ℕ) (kind : FaultKind) (place : ℕ) → found frame n ≡ fault kind place → ⊥
no_both frame n kind place e = cc

-- ---- the law

-- what is answered of bytes, where it is so, says that they have one frame or one fault
one-answer : (bytes : List ℕ) (r : Result (Frame × ℕ) FrameFault) → AreBytes bytes → first_frame bytes ≡ r → Answers bytes r → HasOneFrame bytes ⊎ HasOneFault bytes
one-answer bytes (Ok read) fits e a = inl (record {
  frame = read.0;
  size = read.1;
  begins = a;
  no_other = λ other n b. same_frame other read.0 n read.1 (sym (first_frame-begins bytes other n b) ∙ e);
  no_fault = λ kind place f. no_both read.0 read.1 kind place (sym e ∙ first_frame-faulty bytes kind place fits f);
})
one-answer bytes (Err f) fits e a = inr (record {
  kind = f.kind;
  place = f.place;
  faulty = a;
  no_other = λ k p g. same_fault k f.kind p f.place (sym (first_frame-faulty bytes k p fits g) ∙ e);
  no_frame = λ frame n b. no_both frame n f.kind f.place (sym (first_frame-begins bytes frame n b) ∙ e);
})

-- each list of bytes has one frame at its front and no fault, or one first fault and no frame
pub one_reading_of : (bytes : List ℕ) → AreBytes bytes → HasOneFrame bytes ⊎ HasOneFault bytes
one_reading_of bytes fits = one-answer bytes (first_frame bytes) fits refl (first_frame-answers bytes fits)

-- ---- what the reader found

-- bytes of which a frame is answered begin with it
pub reads_frame : (bytes : List ℕ) (frame : Frame) (n : ℕ) → AreBytes bytes → first_frame bytes ≡ found frame n → BeginsWith bytes frame n
reads_frame bytes frame n fits e = subst (Answers bytes) e (first_frame-answers bytes fits)

-- bytes of which a fault is answered have that fault
pub reads_fault : (bytes : List ℕ) (f : FrameFault) → AreBytes bytes → first_frame bytes ≡ Err f → IsFaulty bytes f.kind f.place
reads_fault bytes f fits e = subst (Answers bytes) e (first_frame-answers bytes fits)

-- a frame that stands there is the one that was read
pub is_that_frame : (bytes : List ℕ) (read frame : Frame) (m n : ℕ) → first_frame bytes ≡ found read m → BeginsWith bytes frame n → found read m ≡ found frame n
is_that_frame bytes read frame m n e b = sym e ∙ first_frame-begins bytes frame n b
