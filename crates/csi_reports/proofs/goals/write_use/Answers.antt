-- Member by member.
use Rattle.std.proofs.Common.{ap, refl, codes, ◌∷◌, []}
use Rattle.std.proofs.lemmas.Result.{on_ok_weaker}
use Rattle.json.specs.Token.{begin_object, key}
use Rattle.json.specs.Tree.{json_tokens}
use Rattle.serde_json.specs.Written.{outline}
use Rattle.csi_reports.specs.Public.Records.{capability_entry}
use Rattle.csi_reports.proofs.WrittenSteps.{next, of_text, of_flag}
use Rattle.csi_reports.proofs.goals.write_use.Goals as goal

pub returns : goal.returns
returns c =
    on_ok_weaker c.end_object.result
    (λ last. next _ _ _ _ (begin_object ∷ []) _ c.in_ok-begin_object.ensures refl
    (next _ _ _ _ (key (codes "capability") ∷ []) _ c.in_ok-key.ensures refl
    (next _ _ _ _ (json_tokens (outline (capability_entry c.args.usage.now.capability))) _ c.in_ok-write.ensures refl
    (next _ _ _ _ _ _ c.in_ok-put_text.ensures (ap (of_text (codes "name")) c.as_str.ensures.value)
    (next _ _ _ _ _ _ c.in_ok-put_text-2.ensures (ap (of_text (codes "node")) c.as_str-2.ensures.value)
    (next _ _ _ _ (of_flag (codes "readonly") c.args.usage.now.readonly) _ c.in_ok-put_flag.ensures refl
    (next _ _ _ _ _ _ c.in_ok-put_text-3.ensures (ap (of_text (codes "target")) c.as_str-3.ensures.value) last)))))))
    c.end_object.ensures
