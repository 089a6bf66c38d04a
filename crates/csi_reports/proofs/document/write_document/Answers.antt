-- Each member is written behind those that are there, with the value that the report has.
use Rattle.std.proofs.Common.{◌∙◌, ap, sym, refl, not, codes, ◌∷◌, []}
use Rattle.std.proofs.lemmas.Result.{on_ok_weaker}
use Rattle.json.specs.Token.{begin_object, key}
use Rattle.std.proofs.Math.Bool.{not-not}
use Rattle.json.specs.Tree.{json_tokens}
use Rattle.serde_json.specs.Written.{outline}
use Rattle.csi_reports.specs.Public.Entries.{entries, attached_entry, known_entry, published_entry, staged_entry, volume_entry}
use Rattle.csi_reports.specs.Public.Listed.{live_rows}
use Rattle.csi_reports.specs.Public.Outcomes.{outcome_entry}
use Rattle.csi_reports.proofs.WrittenSteps.{next, of_number, of_flag, of_entries}
use Rattle.csi_reports.proofs.document.write_document.Goals as goal

pub returns : goal.returns
returns c =
    on_ok_weaker c.end_object.result
    (λ last. next _ _ _ _ (begin_object ∷ []) _ c.in_ok-begin_object.ensures refl
    (next _ _ _ _ _ _ c.in_ok-put_array.ensures (ap (of_entries (codes "attached") attached_entry) c.deref.ensures.value)
    (next _ _ _ _ (key (codes "events") ∷ []) _ c.in_ok-key.ensures refl
    (next _ _ _ _ _ _ c.in_ok-write_outcomes.ensures (ap (λ outcomes. json_tokens (outline (entries outcome_entry outcomes))) c.outcomes.ensures)
    (next _ _ _ _ _ _ c.in_ok-put_number.ensures (ap (of_number (codes "frames")) c.frame_count.ensures)
    (next _ _ _ _ _ _ c.in_ok-put_array-2.ensures (ap (of_entries (codes "known") known_entry) c.deref-2.ensures.value)
    (next _ _ _ _ _ _ c.in_ok-put_array-3.ensures (ap (of_entries (codes "published") published_entry) c.deref-3.ensures.value)
    (next _ _ _ _ _ _ c.in_ok-put_flag.ensures (ap (of_flag (codes "safe")) (sym (ap not c.is_none-safe.ensures ∙ not-not c.is_none-safe.result)))
    (next _ _ _ _ _ _ c.in_ok-put_number-2.ensures (ap (of_number (codes "session")) (c.session.ensures.value ∙ ap (λ parts. parts.last.session) c.orchestrator.ensures))
    (next _ _ _ _ _ _ c.in_ok-put_array-4.ensures (ap (of_entries (codes "staged") staged_entry) c.deref-4.ensures.value)
    (next _ _ _ _ (key (codes "volumes") ∷ []) _ c.in_ok-key-2.ensures refl
    (next _ _ _ _ _ _ c.in_ok-write_volumes.ensures (ap (λ rows. json_tokens (outline (entries volume_entry (live_rows rows)))) (c.all_rows.ensures.value ∙ ap (λ parts. parts.rows) c.controller.ensures)) last))))))))))))
    c.end_object.ensures
