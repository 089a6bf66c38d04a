-- A whole body: what is read is spelled so, what is spelled is read, and where it is at fault.
use Rattle.std.proofs.Common.{◌≡◌, ℕ, ◌+◌, ◌-◌, ◌≤◌, List, [], ◌∷◌, length, Result, Ok, Err, refl, sym, ap, subst, ◌∙◌, arith}
use Rattle.std.proofs.lemmas.List.{append-nil, length-append}
use Rattle.csi_types.specs.Model.Frame.{Frame}
use Rattle.csi_types.specs.Public.Limits.{IsFrame}
use Rattle.csi_frames.specs.declared.fault.FaultKind.{FaultKind}
use Rattle.csi_frames.specs.declared.fault.FaultKind.TheVariants.{LengthDiffers}
use Rattle.csi_frames.specs.declared.fields.FieldStop.{FieldStop}
use Rattle.csi_frames.specs.Public.Spelling.{frame_body}
use Rattle.csi_frames.specs.Public.Grammar.{End, Leads, body_grammar}
use Rattle.csi_frames.specs.Public.Fault.{IsStuck}
use Rattle.csi_frames.specs.Public.Reading.{frame_at, whole_frame}
use Rattle.csi_frames.specs.Public.Bytes.{AreBytes}
use Rattle.csi_frames.proofs.Readers.{Refuses}
use Rattle.csi_frames.proofs.BodyReaders.{frame_agrees}
use Rattle.csi_frames.proofs.Judge.{judge, judge-IsStuck, judge-end}

-- ---- a whole body

-- the bytes are a frame's body
pub record IsBodyOf (frame : Frame) (body : List ℕ) : Type 0 where
  pub fits : IsFrame frame
  pub are : body ≡ frame_body frame
  pub leads : Leads body_grammar body End

-- the body is at fault
pub record IsStopped (body : List ℕ) (stop : FieldStop) : Type 0 where
  pub within : stop.left ≤ length body
  pub stuck : IsStuck body_grammar body stop.kind (length body - stop.left)

-- where the reader of a body stopped and the grammar refuses, the body is at fault
stuck_of : (body : List ℕ) (stop : FieldStop) → Refuses body_grammar body stop → IsStopped body stop
stuck_of body stop r =
    let total : length body ≡ length r.front + length r.back = ap length r.parts ∙ length-append r.front r.back in
    record {
      within = omega (arith, r.here);
      stuck = record { front = r.front; back = r.back; next = r.next; parts = r.parts; here = omega (arith, r.here); leads = r.leads; refused = r.refused };
    }

-- bytes that are read as a frame, with nothing left, are this frame's body
whole-ok : (body : List ℕ) → AreBytes body → (x : Frame × List ℕ) (frame : Frame) → frame_at body ≡ Ok x → whole_frame (Ok x) ≡ Ok frame → IsBodyOf frame body
whole-ok body fits (f, []) frame e all =
    let t = frame_agrees.takes body fits (f, []) e in
    let same : f ≡ frame = cc in
    let front-is : body ≡ t.front = t.parts ∙ append-nil t.front in
    subst (λ (g : Frame). IsBodyOf g body) same
    (record { fits = t.says.fits; are = front-is ∙ t.says.are; leads = subst (λ (b : List ℕ). Leads body_grammar b End) (sym front-is) t.leads })
whole-ok body fits (f, b ∷ rest) frame e all = absurd cc

-- bytes that are read as a frame, with something left, are a body at fault
whole-err : (body : List ℕ) → AreBytes body → (x : Frame × List ℕ) (stop : FieldStop) → frame_at body ≡ Ok x → whole_frame (Ok x) ≡ Err stop → IsStopped body stop
whole-err body fits (f, []) stop e all = absurd cc
whole-err body fits (f, b ∷ rest) stop e all =
    let t = frame_agrees.takes body fits (f, b ∷ rest) e in
    let same : (record { kind = LengthDiffers; left = length (b ∷ rest) }) ≡ stop = cc in
    subst (IsStopped body) same (stuck_of body (record { kind = LengthDiffers; left = length (b ∷ rest) })
    (record { front = t.front; back = b ∷ rest; next = End; parts = t.parts; here = refl; leads = t.leads; refused = refl }))

-- the same two, whatever reading gave
judged_ok : (body : List ℕ) → AreBytes body → (r : Result (Frame × List ℕ) FieldStop) (frame : Frame) → frame_at body ≡ r → whole_frame r ≡ Ok frame → IsBodyOf frame body
judged_ok body fits (Ok x) frame e all = whole-ok body fits x frame e all
judged_ok body fits (Err stop) frame e all = absurd cc

-- bytes whose reading ends in a fault, with something left or not, are a body at fault
judged_err : (body : List ℕ) → AreBytes body → (r : Result (Frame × List ℕ) FieldStop) (stop : FieldStop) → frame_at body ≡ r → whole_frame r ≡ Err stop → IsStopped body stop
judged_err body fits (Ok x) stop e all = whole-err body fits x stop e all
judged_err body fits (Err d) stop e all =
    let same : d ≡ stop = cc in
    subst (IsStopped body) same (stuck_of body d (frame_agrees.stops body fits d e))

-- bytes that are read whole as a frame are that frame's body
pub all_of-ok : (body : List ℕ) (frame : Frame) → AreBytes body → whole_frame (frame_at body) ≡ Ok frame → IsBodyOf frame body
all_of-ok body frame fits e = judged_ok body fits (frame_at body) frame refl e

-- bytes that aren't read as a whole body are a body at fault, of the kind and at the place where reading stopped
pub all_of-err : (body : List ℕ) (stop : FieldStop) → AreBytes body → whole_frame (frame_at body) ≡ Err stop → IsStopped body stop
all_of-err body stop fits e = judged_err body fits (frame_at body) stop refl e

-- the body of a frame whose parts are within their limits is read as that frame, with nothing left
pub all_of-spelled : (frame : Frame) → IsFrame frame → whole_frame (frame_at (frame_body frame)) ≡ Ok frame
all_of-spelled frame fits =
    ap (λ (t : List ℕ). whole_frame (frame_at t)) (sym (append-nil (frame_body frame))) ∙ ap whole_frame (frame_agrees.again frame (frame_body frame) [] (record { fits = fits; are = refl }))

-- a stuck body is answered so
abbrev verdict : FieldStop → Result (Unit {0}) FieldStop
verdict stop = Err stop

-- two stops that are answered alike are the same
verdict_is : (a b : FieldStop) → verdict a ≡ verdict b → a ≡ b
verdict_is a b e = cc

-- bytes aren't judged to be good and to stop
no_verdict : (j : Result (Unit {0}) FieldStop) (stop : FieldStop) → j ≡ Ok tt → j ≡ Err stop → ⊥
no_verdict j stop good bad = cc

-- where a body is stuck, the answer to reading it is that fault at that place
stuck-all : (body : List ℕ) → AreBytes body → (kind : FaultKind) (place : ℕ) → IsStuck body_grammar body kind place → (r : Result Frame FieldStop) → whole_frame (frame_at body) ≡ r
    → r ≡ Err (record { kind = kind; left = length body - place })
stuck-all body fits kind place s (Ok frame) e =
    absurd (no_verdict (judge body_grammar body) (record { kind = kind; left = length body - place }) (judge-end body_grammar body (all_of-ok body frame fits e).leads) (judge-IsStuck body_grammar body kind place s).0)
stuck-all body fits kind place s (Err stop) e =
    let mine = all_of-err body stop fits e in
    let first = judge-IsStuck body_grammar body stop.kind (length body - stop.left) mine.stuck in
    let second = judge-IsStuck body_grammar body kind place s in
    let back : length body - (length body - stop.left) ≡ stop.left = omega (arith, mine.within) in
    let same = verdict_is (record { kind = stop.kind; left = length body - (length body - stop.left) }) (record { kind = kind; left = length body - place }) (sym first.0 ∙ second.0) in
    ap Err (ap (λ (n : ℕ). record { kind = stop.kind; left = n }) (sym back) ∙ same)

-- reading a body that is stuck stops at that place, with that kind of fault
pub all_of-stuck : (body : List ℕ) (kind : FaultKind) (place : ℕ) → AreBytes body → IsStuck body_grammar body kind place → whole_frame (frame_at body) ≡ Err (record { kind = kind; left = length body - place })
all_of-stuck body kind place fits s = stuck-all body fits kind place s (whole_frame (frame_at body)) refl

-- what is left is part of the body
pub rest-within : (body : List ℕ) (x : Frame × List ℕ) → AreBytes body → frame_at body ≡ Ok x → length x.1 ≤ length body
rest-within body x fits e =
    let t = frame_agrees.takes body fits x e in
    omega (arith, ap length t.parts, length-append t.front x.1)
