use Rattle.std.proofs.Common.{◌≡◌, ◌+◌, ◌≤◌, ◌∙◌, ℕ, length, vec_len, vec_capacity, refl, ap, rules, arith}
use Rattle.csi_types.specs.Public.Limits.{IsNumber, IsParty, IsReply}
use Rattle.csi_types.specs.Model.Replies.{reply_frame}
use Rattle.csi_frames.specs.declared.version.Version.TheVariants.{One}
use Rattle.csi_frames.specs.Public.Spelling.{party, reply_fields, spelling}
use Rattle.csi_frames.proofs.Lengths.{length-reply_id}
use Rattle.csi_frames.proofs.Written.{length-frame_body_is, length-spelling, length-reply_is, Puts-frame, put-in-room, growth-put}
use Rattle.csi_frames.proofs.encoding.encode_reply.Goals as goal

pub returns : goal.returns
returns c =
    let frame = reply_frame c.args.number c.args.party.now c.args.kind c.args.reply.now in
    let fields : length (reply_fields c.args.reply.now) ≡ 10 + length c.args.reply.now.detail = length-reply_is c.args.reply.now in
    let detail : length c.as_str.result.now ≡ length c.args.reply.now.detail = ap length c.as_str.ensures.value in
    let room : vec_len c.put_head.new.out + length (reply_fields c.args.reply.now) ≤ vec_capacity c.put_head.new.out = omega (arith, fields, detail, c.put_head.ensures.len, c.put_head.ensures.capacity, c.party_len.ensures.len, c.in_ok-reserve.ensures.ok) in
    let written = Puts-frame c.reserve.new.self c.put_head.new.out c.append_reply.new.out frame (18 + c.party_len.result + 10 + length c.as_str.result.now) One c.reply_kind_number.result _ _ _
    (omega (arith, length-frame_body_is frame, c.party_len.ensures.len, fields, detail)) refl c.reply_kind_number.ensures
    (search rules) c.put_head.ensures (put-in-room c.put_head.new.out c.append_reply.new.out (reply_fields c.args.reply.now) (IsReply c.args.reply.now) c.append_reply.result room c.append_reply.ensures) in
    growth-put c.args.out.now c.reserve.new.self c.append_reply.new.out (spelling frame) (IsNumber c.args.number × IsParty c.args.party.now × IsReply c.args.reply.now) c.in_ok-reserve.ensures.items c.in_ok-reserve.ensures.capacity written

pub returns-in_err-reserve : goal.returns-in_err-reserve
returns-in_err-reserve c =
    let frame = reply_frame c.args.number c.args.party.now c.args.kind c.args.reply.now in
    record {
      appends = search rules;
      fits = search rules;
      err = search rules;
      spare = λ enough. absurd (omega (arith, enough, length-frame_body_is frame, c.party_len.ensures.len, length-reply_is c.args.reply.now, ap length c.as_str.ensures.value, length-spelling frame, c.in_err-reserve.ensures.full));
      capacity = search rules;
    }
