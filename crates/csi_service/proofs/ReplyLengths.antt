-- How many bytes a reply has at most.
use Rattle.std.proofs.Common.{◌≡◌, ℕ, ◌≤◌, length, Option, Some, None, refl, arith}
use Rattle.std.proofs.lemmas.List.{length-append}
use Rattle.csi_types.specs.declared.number.Number.{Number}
use Rattle.csi_types.specs.declared.call.Kind.{Kind}
use Rattle.csi_types.specs.declared.call.Party.{Party}
use Rattle.csi_types.specs.declared.reply.Reply.{Reply}
use Rattle.csi_types.specs.Model.Replies.{reply_frame}
use Rattle.csi_frames.specs.Public.Spelling as spelling
use Rattle.csi_frames.proofs.Written.{length-frame_body_is, length-spelling}

-- a reply's id has eight bytes
length-id : (id : Option ℕ) → length (spelling.reply_id id) ≡ 8
length-id None = refl
length-id (Some n) = refl

-- 4 of a length, 18 of a version, a kind and a number, 257 of a party, and 265 of a status, an id and a detail
pub length_reply : (number : Number) (party : Party) (kind : Kind) (reply : Reply) → length (spelling.party party) ≤ 257 → length reply.detail ≤ 255 → length (spelling.spelling (reply_frame number party kind reply)) ≤ 544
length_reply number party kind reply few short =
    let frame = reply_frame number party kind reply in
    omega (arith, length-spelling frame, length-frame_body_is frame, few, length-append (spelling.reply_id reply.id) (spelling.text reply.detail), length-id reply.id, short)
