-- Member by member.
use Rattle.std.proofs.Common.{◌∙◌, ap, refl, codes, ◌∷◌, []}
use Rattle.std.proofs.lemmas.Result.{on_ok_weaker}
use Rattle.json.specs.Token.{begin_object}
use Rattle.csi_reports.specs.Public.Records.{answered_entry}
use Rattle.csi_reports.proofs.WrittenSteps.{next, of_number, of_text, of_entries}
use Rattle.csi_reports.proofs.records.NodeRecordEntry.write.Goals as goal

pub returns : goal.returns
returns c =
    on_ok_weaker c.end_object.result
    (λ last. next _ _ _ _ (begin_object ∷ []) _ c.in_ok-begin_object.ensures refl
    (next _ _ _ _ _ _ c.in_ok-put_text.ensures (ap (of_text (codes "node")) (c.as_str.ensures.value ∙ c.id.ensures))
    (next _ _ _ _ (of_text (codes "plugin") (codes "node")) _ c.in_ok-put_text-2.ensures refl
    (next _ _ _ _ _ _ c.in_ok-put_number.ensures (ap (of_number (codes "session")) c.session.ensures)
    (next _ _ _ _ _ _ c.in_ok-put_array.ensures (ap (of_entries (codes "volumes") answered_entry) c.rows.ensures.value) last)))))
    c.end_object.ensures
