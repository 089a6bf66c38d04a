-- Member by member.
use Rattle.std.proofs.Common.{ap, refl, codes, ◌∷◌, []}
use Rattle.std.proofs.lemmas.Result.{on_ok_weaker}
use Rattle.json.specs.Token.{begin_object, key}
use Rattle.json.specs.Tree.{json_tokens}
use Rattle.serde_json.specs.Data.{string}
use Rattle.serde_json.specs.Written.{outline}
use Rattle.csi_reports.specs.Public.Responses.{request_outcome_text}
use Rattle.csi_reports.proofs.WrittenSteps.{next, of_number, of_text}
use Rattle.csi_reports.proofs.responses.write_loss.Goals as goal

pub returns : goal.returns
returns c =
    on_ok_weaker c.end_object.result
    (λ last. next _ _ _ _ (begin_object ∷ []) _ c.in_ok-begin_object.ensures refl
    (next _ _ _ _ _ _ c.in_ok-put_text.ensures (ap (of_text (codes "node")) c.as_str.ensures.value)
    (next _ _ _ _ (key (codes "outcome") ∷ []) _ c.in_ok-key.ensures refl
    (next _ _ _ _ (json_tokens (outline (string (request_outcome_text c.args.outcome)))) _ c.in_ok-write_outcome_text.ensures refl
    (next _ _ _ _ (of_number (codes "session") c.args.session) _ c.in_ok-put_number.ensures refl last)))))
    c.end_object.ensures
