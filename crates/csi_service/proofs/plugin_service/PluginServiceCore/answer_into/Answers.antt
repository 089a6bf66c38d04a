-- A frame that is lent is passed, or is the frame of its call; there is room for the reply, since both of its texts are within their limits.
use Rattle.std.proofs.Common.{◌≡◌, ◌≤◌, ◌+◌, ◌++◌, ◌∙◌, sym, ap, refl, inl, inr, None, ℕ, List, Global, length, rules, arith}
use Rattle.std.specs.Prelude.{Vec, vec_capacity, vec_len}
use Rattle.std.proofs.lemmas.List.{append-nil, length-append}
use Rattle.csi_types.specs.Model.Replies.{reply_frame}
use Rattle.csi_frames.specs.Public.Spelling as spelling
use Rattle.csi_frames.specs.Public.Lent.{lent_frame}
use Rattle.csi_service.specs.Public.Plugins.{ServedPlugin}
use Rattle.csi_service.specs.Private.Plugins.{party_of}
use Rattle.csi_service.proofs.AnsweredFrames.{not-for}
use Rattle.csi_service.proofs.ReplyLengths.{length_reply}
use Rattle.csi_service.proofs.plugin_service.PluginServiceCore.answer_into.Goals as goal
use Rattle.csi_service.proofs.plugin_service.PluginServiceCore.answer_into.Goals.{in-Controller, in-Node, then-is_for+in_ok-reserve+in_default, else-is_for}

few-more : (old new bytes : List ℕ) → new ≡ old ++ bytes → length bytes ≤ 544 → length new ≤ length old + 544
few-more old new bytes is few = omega (arith, ap length is, length-append old bytes, few)

pub unwrap-requires : goal.unwrap-requires
unwrap-requires g c =
    let party = c.self-in-Some.inside.party in
    let number = c.number-number.result in
    let answer = c.in_ok-answer.answer in
    let few : length (spelling.party party) ≤ 257 = elim c.match-self.branch [ in-Controller w ↦ rw w.in-Controller.is (omega arith) | in-Node w ↦ rw w.in-Node.is (omega (arith, w.as_str-id.ensures.limits)) ] in
    let most = length_reply number party answer.kind answer.reply few (omega (arith, c.as_str-detail.ensures.limits)) in
    let room : vec_len c.reserve.new.self + 544 ≤ vec_capacity c.reserve.new.self = search rules in
    c.encode_reply.ensures.spare (omega (arith, most, room))

pub returns-in-Some-clause-few : goal.returns-in-Some-clause-few
returns-in-Some-clause-few g c =
    let party = c.self-in-Some.inside.party in
    let number = c.number-number.result in
    let answer = c.in_ok-answer.answer in
    let few : length (spelling.party party) ≤ 257 = elim c.match-self.branch [ in-Controller w ↦ rw w.in-Controller.is (omega arith) | in-Node w ↦ rw w.in-Node.is (omega (arith, w.as_str-id.ensures.limits)) ] in
    let most = length_reply number party answer.kind answer.reply few (omega (arith, c.as_str-detail.ensures.limits)) in
    let bytes = spelling.spelling (reply_frame number party answer.kind answer.reply) in
    let is : c.encode_reply.new.out.items ≡ c.args.out.now.items ++ bytes = search rules in
    few-more c.args.out.now.items c.encode_reply.new.out.items bytes is most

pub returns-clause-answered : goal.returns-clause-answered
returns-clause-answered g c =
    let frame = lent_frame c.args.frame.now in
    let own : c.self.inside.party ≡ party_of g.P.Plugin.view c.args.self.now.plugin = c.self.invariant ∙ ap (λ (service : ServedPlugin _). party_of g.P.Plugin.view service.plugin) c.self.view_is in
    elim c.if-is_for.branch [
      | then-is_for+in_ok-reserve+in_default w ↦ record {
        reply = None;
        answered = c.pass.ensures.answered frame (inr (sym w.in_default.ensures.value));
        appended = ap (λ (out : Vec ℕ Global). out.items) w.out-is ∙ w.reserve.ensures.items ∙ sym (append-nil _);
        told = refl;
      }
      | else-is_for w ↦ record {
        reply = None;
        answered = c.pass.ensures.answered frame (inl (λ same. not-for c.is_for.result frame.party c.self.inside.party c.is_for.ensures w.if-is_for.false (same ∙ sym own)));
        appended = ap (λ (out : Vec ℕ Global). out.items) w.out-is ∙ sym (append-nil _);
        told = refl;
      }
    ]

pub returns-clause-told : goal.returns-clause-told
returns-clause-told g c = c.pass.ensures.told (lent_frame c.args.frame.now)
