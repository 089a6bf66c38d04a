-- Member by member.
use Rattle.std.proofs.Common.{ap, refl, codes, ◌∷◌, []}
use Rattle.std.proofs.lemmas.Result.{on_ok_weaker}
use Rattle.json.specs.Token.{begin_object, key}
use Rattle.json.specs.Tree.{json_tokens}
use Rattle.serde_json.specs.Written.{outline}
use Rattle.csi_reports.specs.Public.Records.{capability_entry, holding_entry, number_entry}
use Rattle.csi_reports.proofs.WrittenSteps.{next, of_number, of_text, of_flag, of_entries}
use Rattle.csi_reports.proofs.records.ControllerRowEntry.write.Goals as goal

pub returns : goal.returns
returns c =
    on_ok_weaker c.end_object.result
    (λ last. next _ _ _ _ (begin_object ∷ []) _ c.in_ok-begin_object.ensures refl
    (next _ _ _ _ _ _ c.in_ok-put_array.ensures (ap (of_entries (codes "attached") holding_entry) c.deref.ensures.value)
    (next _ _ _ _ _ _ c.in_ok-put_array-2.ensures (ap (of_entries (codes "capabilities") capability_entry) c.as_slice.ensures.value)
    (next _ _ _ _ (of_number (codes "capacity") c.args.self.now.capacity) _ c.in_ok-put_number.ensures refl
    (next _ _ _ _ _ _ c.in_ok-put_number-2.ensures (ap (of_number (codes "id")) c.number.ensures.value)
    (next _ _ _ _ (key (codes "last") ∷ []) _ c.in_ok-key.ensures refl
    (next _ _ _ _ (json_tokens (outline (number_entry c.args.self.now.last))) _ c.in_ok-write_number.ensures refl
    (next _ _ _ _ (of_flag (codes "live") c.args.self.now.live) _ c.in_ok-put_flag.ensures refl
    (next _ _ _ _ _ _ c.in_ok-put_text.ensures (ap (of_text (codes "name")) c.as_str.ensures.value) last)))))))))
    c.end_object.ensures
