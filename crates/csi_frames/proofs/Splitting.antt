-- What a splitter finds at the front of the bytes that it keeps.
use Rattle.std.proofs.Common.{◌≡◌, ◌≢◌, ℕ, ◌+◌, ◌-◌, ◌^◌, ◌≤◌, min, Bool, true, false, cond, List, length, take, drop, take_all, Option, Some, None, Result, Ok, Err, refl, sym, ap, subst, ◌∙◌, arith}
use Rattle.std.proofs.lemmas.List.{length-take, length-drop, drop-drop}
use Rattle.csi_types.specs.Model.Frame.{Frame}
use Rattle.csi_types.specs.Public.Limits.{IsFrame}
use Rattle.csi_frames.specs.declared.fault.FaultKind.{FaultKind}
use Rattle.csi_frames.specs.declared.fault.FaultKind.TheVariants.{Short}
use Rattle.csi_frames.specs.declared.fault.FrameFault.{FrameFault}
use Rattle.csi_frames.specs.Public.Bytes.{AreBytes}
use Rattle.csi_frames.specs.Public.Spelling.{spelling, BeginsWith}
use Rattle.csi_frames.specs.Public.Fault.{IsFaulty}
use Rattle.csi_frames.specs.Public.Reading.{first_frame}
use Rattle.csi_frames.specs.Public.Splitting.{Splitting, IsFound, IsNextFrame, after_next}
use Rattle.csi_frames.specs.Private.Progress.{is_short}
use Rattle.csi_frames.specs.Public.Progress.{progress_shown}
use Rattle.csi_frames.proofs.Bytes.{AreBytes-drop, AreBytes-take}
use Rattle.csi_frames.proofs.Front.{first_frame-begins, first_frame-faulty}
use Rattle.csi_frames.proofs.Verdicts.{reads_frame, reads_fault}
use Rattle.csi_frames.proofs.NeverShort.{waiting}

-- the count of a frame's bytes is that of its spelling
pub size_is : (bytes : List ℕ) (frame : Frame) (n : ℕ) → BeginsWith bytes frame n → n ≡ length (spelling frame)
size_is bytes frame n begins =
    let e : length (take n bytes) ≡ length (spelling frame) = ap length begins.spelled.are in
    omega (arith, begins.within, length-take {A = ℕ})

-- the test whether a fault is Short tells that it is, and below that it isn't
is-Short : (kind : FaultKind) → is_short kind ≡ true → kind ≡ Short
is-Short Short e = refl
is-Short _ e = absurd cc

-- a fault that isn't Short fails the test
not-Short : (kind : FaultKind) → kind ≢ Short → is_short kind ≡ false
not-Short Short other = absurd (other refl)
not-Short _ other = refl

-- ---- one answer

-- what a splitter answers, by what was read: none where the fault is Short
abbrev answer_of : Result (Frame × ℕ) FrameFault → Result (Option Frame) FrameFault
answer_of (Ok read) = Ok (Some read.0)
answer_of (Err fault) = cond (is_short fault.kind) (Ok None) (Err fault)

-- what the kept bytes may be answered is what reading them gives
read-is : (kept : List ℕ) (answer : Result (Option Frame) FrameFault) → AreBytes kept → IsFound kept answer → answer ≡ answer_of (first_frame kept)
read-is kept (Ok (Some frame)) fits found = sym (ap answer_of (first_frame-begins kept frame (length (spelling frame)) found))
read-is kept (Ok None) fits found = sym (ap answer_of (first_frame-faulty kept Short (length kept) fits found))
read-is kept (Err fault) fits found =
    sym (ap answer_of (first_frame-faulty kept fault.kind fault.place fits found.1) ∙ ap (λ (t : Bool). cond t (Ok None) (Err fault)) (not-Short fault.kind found.0))

-- ---- what was read

-- a frame that is read of the kept bytes is what they are answered, and the count is that of its spelling
IsFound-frame : (kept : List ℕ) (frame : Frame) (n : ℕ) → AreBytes kept → first_frame kept ≡ Ok (frame, n) → IsFound kept (Ok (Some frame)) × (n ≡ length (spelling frame))
IsFound-frame kept frame n fits e =
    let begins = reads_frame kept frame n fits e in
    let size = size_is kept frame n begins in
    (subst (BeginsWith kept frame) size begins, size)

-- where reading the kept bytes finds Short, they are answered none, and are at most 1283
IsFound-none : (kept : List ℕ) (fault : FrameFault) → AreBytes kept → first_frame kept ≡ Err fault → is_short fault.kind ≡ true → IsFound kept (Ok None) × (length kept ≤ 1283)
IsFound-none kept fault fits e t =
    let faulty = reads_fault kept fault fits e in
    let is = is-Short fault.kind t in
    let waits = waiting kept fault.kind fault.place faulty is in
    (subst (IsFaulty kept Short) waits.1 (subst (λ (kind : FaultKind). IsFaulty kept kind fault.place) is faulty), waits.0)

-- where reading the kept bytes finds another fault, they are answered that fault
IsFound-fault : (kept : List ℕ) (fault : FrameFault) → AreBytes kept → first_frame kept ≡ Err fault → is_short fault.kind ≡ false → IsFound kept (Err fault)
IsFound-fault kept fault fits e t =
    (λ is. let other : is_short fault.kind ≡ true = ap is_short is in cc, reads_fault kept fault fits e)

-- ---- before a fault and after it

-- where no fault was answered before, the answer is what is found of the kept bytes
pub IsNext-found : (before : Option FrameFault) (kept : List ℕ) (answer : Result (Option Frame) FrameFault) → before ≡ None → IsFound kept answer → IsNextFrame before kept answer
IsNext-found None kept answer e found = found
IsNext-found (Some fault) kept answer e found = absurd cc

-- once a fault was answered, it is the answer
pub IsNext-fault : (before : Option FrameFault) (kept : List ℕ) (fault : FrameFault) → before ≡ Some fault → IsNextFrame before kept (Err fault)
IsNext-fault None kept fault e = absurd cc
IsNext-fault (Some first) kept fault e = ap Err (let same : fault ≡ first = cc in same)

-- a splitter has one answer to the next call
pub IsNext-only : (before : Option FrameFault) (kept : List ℕ) (answer other : Result (Option Frame) FrameFault) → AreBytes kept → IsNextFrame before kept answer → IsNextFrame before kept other → answer ≡ other
IsNext-only None kept answer other fits one two = read-is kept answer fits one ∙ sym (read-is kept other fits two)
IsNext-only (Some fault) kept answer other fits one two = one ∙ sym two

-- ---- what a splitter shows

-- what is read behind a place, as the code has it
behind : (start : ℕ) (buffer : List ℕ) (read : Result (Frame × ℕ) FrameFault) → first_frame (take (length buffer - start) (drop start buffer)) ≡ read → first_frame (drop start buffer) ≡ read
behind start buffer read e = ap first_frame (sym (take_all (length buffer - start) (drop start buffer) (omega (arith, length-drop start buffer)))) ∙ e

-- the three lemmas above on what was read, of the bytes behind a place in the buffer: a frame, none, or a fault
pub behind-frame : (start : ℕ) (buffer : List ℕ) (frame : Frame) (n : ℕ) → AreBytes buffer → first_frame (take (length buffer - start) (drop start buffer)) ≡ Ok (frame, n) → IsFound (drop start buffer) (Ok (Some frame)) × (n ≡ length (spelling frame))
behind-frame start buffer frame n fits e = IsFound-frame (drop start buffer) frame n (AreBytes-drop start buffer fits) (behind start buffer (Ok (frame, n)) e)

-- where the bytes behind a place are read as Short, there is no frame yet, and they are at most 1283
pub behind-none : (start : ℕ) (buffer : List ℕ) (fault : FrameFault) → AreBytes buffer → first_frame (take (length buffer - start) (drop start buffer)) ≡ Err fault → is_short fault.kind ≡ true → IsFound (drop start buffer) (Ok None) × (length (drop start buffer) ≤ 1283)
behind-none start buffer fault fits e t = IsFound-none (drop start buffer) fault (AreBytes-drop start buffer fits) (behind start buffer (Err fault) e) t

-- where they are read as another fault, that one is found
pub behind-fault : (start : ℕ) (buffer : List ℕ) (fault : FrameFault) → AreBytes buffer → first_frame (take (length buffer - start) (drop start buffer)) ≡ Err fault → is_short fault.kind ≡ false → IsFound (drop start buffer) (Err fault)
behind-fault start buffer fault fits e t = IsFound-fault (drop start buffer) fault (AreBytes-drop start buffer fits) (behind start buffer (Err fault) e) t

-- a frame that is read is taken off the front
pub shown-frame : (start size taken sum : ℕ) (fault : Option FrameFault) (buffer : List ℕ) (frame : Frame) → size ≡ length (spelling frame) → sum ≡ min (taken + size) (2 ^ 64 - 1)
    → progress_shown (record { start = start + size; taken = sum; fault = fault }) buffer ≡ after_next (progress_shown (record { start = start; taken = taken; fault = fault }) buffer) (Ok (Some frame))
shown-frame start size taken sum fault buffer frame same capped =
    let made : List ℕ → ℕ → Splitting = λ kept t. record { kept = kept; taken = t; fault = fault } in
    ap (made (drop (start + size) buffer)) capped
    ∙ ap (λ (n : ℕ). made (drop (start + n) buffer) (min (taken + n) (2 ^ 64 - 1))) same
    ∙ ap (λ (kept : List ℕ). made kept (min (taken + length (spelling frame)) (2 ^ 64 - 1))) (sym (drop-drop (length (spelling frame)) start buffer))

-- ---- a frame that is lent is what its spelling is read as

-- the spelling of a frame within its limits is read as that frame
pub spelling-read : (frame : Frame) → IsFrame frame → first_frame (spelling frame) ≡ Ok (frame, length (spelling frame))
spelling-read frame fits =
    first_frame-begins (spelling frame) frame (length (spelling frame)) (record {
      within = omega arith;
      spelled = record { fits = fits; are = take_all (length (spelling frame)) (spelling frame) (omega arith) };
    })

-- a frame whose spelling is read as itself is within its limits
pub read-fits : (frame : Frame) → AreBytes (spelling frame) → first_frame (spelling frame) ≡ Ok (frame, length (spelling frame)) → IsFrame frame
read-fits frame fits e = (reads_frame (spelling frame) frame (length (spelling frame)) fits e).spelled.fits

-- the spelling of a frame with which bytes begin is made of bytes
pub AreBytes-spelling : (kept : List ℕ) (frame : Frame) (n : ℕ) → AreBytes kept → BeginsWith kept frame n → AreBytes (spelling frame)
AreBytes-spelling kept frame n fits begins = subst AreBytes begins.spelled.are (AreBytes-take n kept fits)
