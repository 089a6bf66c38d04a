-- What was written piece by piece is the spelling of the whole.
use Rattle.std.proofs.Common.{◌≡◌, ◌≤◌, ℕ, ◌+◌, List, ◌++◌, length, vec_capacity, Ok, Err, refl, ap, subst, ◌∙◌, append_assoc, arith}
use Rattle.std.specs.Prelude.{Result}
use Rattle.std.specs.Global.{Vec}
use Rattle.std.proofs.lemmas.List.{length-append}
use Rattle.byteorder.specs.Endian.{big_bytes}
use Rattle.csi_types.specs.declared.reply.Reply.{Reply}
use Rattle.csi_types.specs.Model.Frame.{Frame}
use Rattle.csi_frames.specs.declared.version.Version.{Version}
use Rattle.csi_frames.specs.Private.Puts.{Puts, HasRoom}
use Rattle.csi_frames.specs.Public.Appends.{Appends}
use Rattle.csi_frames.specs.Public.Spelling.{party, reply_fields, reply_id, text, body_fields, body_kind, body_version, frame_body, spelling}
use Rattle.csi_frames.specs.Private.Spelling.{head}
use Rattle.csi_frames.proofs.Lengths.{length-reply_id}

-- what is appended where there is room for it is put there
pub put-in-room : {E : Type 0} (a b : Vec ℕ) (x : List ℕ) (limits : Type 0) (result : Result (Unit {0}) E) → HasRoom a (length x) → Appends a b x limits result → Puts a b x limits
put-in-room a b x limits (Ok done) room appended = record {
  items = appended.appends;
  len = omega (arith, ap length appended.appends, length-append a.items x, a.ok.0, b.ok.0);
  capacity = appended.capacity;
  fits = appended.fits;
}
put-in-room a b x limits (Err refused) room appended = absurd (cc (appended.spare room))

-- what is put where the growth left what was there is appended
pub growth-put : {E : Type 0} (old grown new : Vec ℕ) (x : List ℕ) (limits : Type 0) → grown.items ≡ old.items → vec_capacity old ≤ vec_capacity grown → Puts grown new x limits → Appends {E = E} old new x limits (Ok tt)
growth-put old grown new x limits same larger written = record {
  appends = written.items ∙ ap (λ (front : List ℕ). front ++ x) same;
  fits = written.fits;
  err = tt;
  spare = λ enough. refl;
  capacity = omega (arith, larger, written.capacity);
}

-- one list of bytes was put behind a vector, and then another: both were, one after the other
pub Puts-then : (a b c : Vec ℕ) (x y : List ℕ) (P Q R : Type 0) → R → Puts a b x P → Puts b c y Q → Puts a c (x ++ y) R
Puts-then a b c x y P Q R fits p q = record {
  items = q.items ∙ ap (λ (t : List ℕ). t ++ y) p.items ∙ append_assoc a.items x y;
  len = omega (arith, p.len, q.len, length-append x y);
  capacity = omega (arith, p.capacity, q.capacity);
  fits = fits;
}

-- a body has 18 bytes and those of its party and of its kind's fields
pub length-frame_body_is : (frame : Frame) → length (frame_body frame) ≡ 18 + length (party frame.party) + length (body_fields frame.body)
unfolding frame_body
length-frame_body_is frame = omega (arith, length-append (party frame.party) (body_fields frame.body))

-- a frame's spelling has four bytes more than its body
pub length-spelling : (frame : Frame) → length (spelling frame) ≡ 4 + length (frame_body frame)
unfolding spelling
length-spelling frame = omega (arith, length-append (big_bytes 4 (length (frame_body frame))) (frame_body frame))

-- the fields of a reply have ten bytes and those of its detail
pub length-reply_is : (reply : Reply) → length (reply_fields reply) ≡ 10 + length reply.detail
length-reply_is reply = omega (arith, length-append (reply_id reply.id) (text reply.detail), length-reply_id reply.id)

-- what stands before a frame's fields, with the count of its body's bytes, its version and its kind byte, and then the fields are the frame's spelling
pub Puts-frame : (o0 o1 o2 : Vec ℕ) (frame : Frame) (size : ℕ) (version : Version) (kind : ℕ) (P Q R : Type 0) → size ≡ length (frame_body frame) → version ≡ body_version frame.body → kind ≡ body_kind frame.body
    → R → Puts o0 o1 (head size version kind frame.number ++ party frame.party) P → Puts o1 o2 (body_fields frame.body) Q
    → Puts o0 o2 (spelling frame) R
unfolding spelling frame_body
Puts-frame o0 o1 o2 frame size version kind P Q R counted of_version of_kind fits a b =
    subst (λ (n : ℕ). Puts o0 o2 (head n (body_version frame.body) (body_kind frame.body) frame.number ++ party frame.party ++ body_fields frame.body) R) counted
    (subst (λ (v : Version). Puts o0 o2 (head size v (body_kind frame.body) frame.number ++ party frame.party ++ body_fields frame.body) R) of_version
    (subst (λ (k : ℕ). Puts o0 o2 (head size version k frame.number ++ party frame.party ++ body_fields frame.body) R) of_kind
    (Puts-then o0 o1 o2 (head size version kind frame.number ++ party frame.party) (body_fields frame.body) P Q R fits a b)))
