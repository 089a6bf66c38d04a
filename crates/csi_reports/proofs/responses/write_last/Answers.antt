-- The last member, where there is one, and the end.
use Rattle.std.proofs.Common.{◌≡◌, ◌++◌, ◌∷◌, [], refl, codes, subst, sym}
use Rattle.std.specs.Prelude.{Option}
use Rattle.std.proofs.lemmas.Result.{on_ok_weaker}
use Rattle.json.specs.Token.{key}
use Rattle.json.specs.Tree.{json_tokens, members_tokens}
use Rattle.serde_json.specs.Written.{outline, members_outline}
use Rattle.csi_reports.specs.declared.responses.Sending.{Sending}
use Rattle.csi_reports.specs.Public.Responses.{send_entry, send_member, sending_shown}
use Rattle.csi_reports.proofs.WrittenSteps.{next}
use Rattle.csi_reports.proofs.responses.write_last.Goals as goal

pub returns-in_ok-write_send-in-Some : goal.returns-in_ok-write_send-in-Some
returns-in_ok-write_send-in-Some c =
    let writes : Option Sending → Type 0 = λ sending. c.end_object.new.self ≡ c.args.out.now ++ members_tokens (members_outline (send_member (sending_shown sending))) in
    on_ok_weaker c.end_object.result
    (λ last. subst writes (sym c.in-Some.is)
    (next _ _ _ _ (key (codes "send") ∷ []) _ c.in_ok-key-in-Some.ensures refl
    (next _ _ _ _ (json_tokens (outline (send_entry c.in-Some.sent.frame.now c.in-Some.sent.bytes.now))) _ c.in_ok-write_send-in-Some.ensures refl last)))
    c.end_object.ensures
