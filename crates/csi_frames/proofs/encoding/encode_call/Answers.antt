use Rattle.std.proofs.Common.{◌≡◌, ◌+◌, ◌∙◌, ℕ, length, ap, rules, arith}
use Rattle.csi_types.specs.declared.call.Kind.{Kind}
use Rattle.csi_types.specs.Public.Limits.{IsNumber, IsParty, IsCall}
use Rattle.csi_types.specs.Model.Replies.{call_frame}
use Rattle.csi_types.specs.Model.Same.{kind_number}
use Rattle.csi_frames.specs.Public.Spelling.{spelling}
use Rattle.csi_frames.specs.Public.Version.{version_with}
use Rattle.csi_frames.proofs.Written.{length-frame_body_is, length-spelling, Puts-frame, growth-put}
use Rattle.csi_frames.proofs.encoding.encode_call.Goals as goal

pub returns : goal.returns
returns c =
    let frame = call_frame c.args.number c.args.party.now c.args.call.now in
    let written = Puts-frame c.reserve.new.self c.put_head.new.out c.put_call.new.out frame (18 + c.party_len.result + c.call_len.result) c.with_new_mode-version.result c.kind_number-kind.result _ _ _
    (omega (arith, length-frame_body_is frame, c.party_len.ensures.len, c.call_len.ensures.len)) (c.with_new_mode-version.ensures ∙ ap version_with c.call_has_new_mode.ensures) (c.kind_number-kind.ensures ∙ ap (λ (kind : Kind). kind_number kind) c.kind.ensures)
    (search rules) c.put_head.ensures c.put_call.ensures in
    growth-put c.args.out.now c.reserve.new.self c.put_call.new.out (spelling frame) (IsNumber c.args.number × IsParty c.args.party.now × IsCall c.args.call.now) c.in_ok-reserve.ensures.items c.in_ok-reserve.ensures.capacity written

pub returns-in_err-reserve : goal.returns-in_err-reserve
returns-in_err-reserve c =
    let frame = call_frame c.args.number c.args.party.now c.args.call.now in
    record {
      appends = search rules;
      fits = search rules;
      err = search rules;
      spare = λ enough. absurd (omega (arith, enough, length-frame_body_is frame, c.party_len.ensures.len, c.call_len.ensures.len, length-spelling frame, c.in_err-reserve.ensures.full));
      capacity = search rules;
    }
