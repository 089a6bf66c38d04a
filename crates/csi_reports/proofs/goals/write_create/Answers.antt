-- Member by member.
use Rattle.std.proofs.Common.{ap, refl, codes, ◌∷◌, []}
use Rattle.std.proofs.lemmas.Result.{on_ok_weaker}
use Rattle.json.specs.Token.{begin_object}
use Rattle.csi_reports.specs.Public.Records.{capability_entry}
use Rattle.csi_reports.proofs.WrittenSteps.{next, of_number, of_text, of_entries}
use Rattle.csi_reports.proofs.goals.write_create.Goals as goal

pub returns : goal.returns
returns c =
    on_ok_weaker c.end_object.result
    (λ last. next _ _ _ _ (begin_object ∷ []) _ c.in_ok-begin_object.ensures refl
    (next _ _ _ _ _ _ c.in_ok-put_array.ensures (ap (of_entries (codes "capabilities") capability_entry) c.as_slice.ensures.value)
    (next _ _ _ _ (of_number (codes "limit") c.args.arguments.now.limit) _ c.in_ok-put_number.ensures refl
    (next _ _ _ _ _ _ c.in_ok-put_text.ensures (ap (of_text (codes "name")) c.as_str.ensures.value)
    (next _ _ _ _ (of_number (codes "required") c.args.arguments.now.required) _ c.in_ok-put_number-2.ensures refl last)))))
    c.end_object.ensures
