-- Member by member.
use Rattle.std.proofs.Common.{ap, refl, codes, ◌∷◌, []}
use Rattle.std.proofs.lemmas.Result.{on_ok_weaker}
use Rattle.json.specs.Token.{begin_object}
use Rattle.csi_reports.specs.Public.Records.{made_entry}
use Rattle.csi_reports.proofs.WrittenSteps.{next, of_number, of_text, of_entries}
use Rattle.csi_reports.proofs.records.ControllerRecordEntry.write.Goals as goal

pub returns : goal.returns
returns c =
    on_ok_weaker c.end_object.result
    (λ last. next _ _ _ _ (begin_object ∷ []) _ c.in_ok-begin_object.ensures refl
    (next _ _ _ _ _ _ c.in_ok-put_number.ensures (ap (of_number (codes "next_id")) c.next_id.ensures)
    (next _ _ _ _ (of_text (codes "plugin") (codes "controller")) _ c.in_ok-put_text.ensures refl
    (next _ _ _ _ _ _ c.in_ok-put_number-2.ensures (ap (of_number (codes "session")) c.session.ensures)
    (next _ _ _ _ _ _ c.in_ok-put_array.ensures (ap (of_entries (codes "volumes") made_entry) c.rows.ensures.value) last)))))
    c.end_object.ensures
