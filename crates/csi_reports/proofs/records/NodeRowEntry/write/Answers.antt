-- Member by member.
use Rattle.std.proofs.Common.{ap, refl, codes, ◌∷◌, []}
use Rattle.std.proofs.lemmas.Result.{on_ok_weaker}
use Rattle.json.specs.Token.{begin_object, key}
use Rattle.json.specs.Tree.{json_tokens}
use Rattle.serde_json.specs.Written.{outline}
use Rattle.csi_reports.specs.Public.Records.{number_entry, staged_as, target_entry}
use Rattle.csi_reports.proofs.WrittenSteps.{next, of_number, of_entries}
use Rattle.csi_reports.proofs.records.NodeRowEntry.write.Goals as goal

pub returns : goal.returns
returns c =
    on_ok_weaker c.end_object.result
    (λ last. next _ _ _ _ (begin_object ∷ []) _ c.in_ok-begin_object.ensures refl
    (next _ _ _ _ _ _ c.in_ok-put_number.ensures (ap (of_number (codes "id")) c.number.ensures.value)
    (next _ _ _ _ (key (codes "last") ∷ []) _ c.in_ok-key.ensures refl
    (next _ _ _ _ (json_tokens (outline (number_entry c.args.self.now.last))) _ c.in_ok-write_number.ensures refl
    (next _ _ _ _ _ _ c.in_ok-put_array.ensures (ap (of_entries (codes "published") target_entry) c.deref.ensures.value)
    (next _ _ _ _ (key (codes "staged") ∷ []) _ c.in_ok-key-2.ensures refl
    (next _ _ _ _ (json_tokens (outline (staged_as c.args.self.now.staged))) _ c.in_ok-write_staged.ensures refl last)))))))
    c.end_object.ensures
