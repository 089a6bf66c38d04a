-- Member by member.
use Rattle.std.proofs.Common.{refl, codes, ◌∷◌, []}
use Rattle.std.proofs.lemmas.Result.{on_ok_weaker}
use Rattle.std.specs.Borrow.{Bor}
use Rattle.json.specs.Token.{begin_object}
use Rattle.serde_json.specs.Data.{string}
use Rattle.csi_orchestrator.specs.declared.row.Row.{Row}
use Rattle.csi_orchestrator.specs.Public.Shown.{row_shown}
use Rattle.csi_reports.specs.Public.OrchestratorRecords.{kept_entry}
use Rattle.csi_reports.proofs.SeenInPlace.{of-seen}
use Rattle.csi_reports.proofs.WrittenSteps.{next, of_number, of_text, of_entries}
use Rattle.csi_reports.proofs.orchestrator_records.write_record.Goals as goal

pub returns : goal.returns
returns c =
    on_ok_weaker c.end_object.result
    (λ last. next _ _ _ _ (begin_object ∷ []) _ c.in_ok-begin_object.ensures refl
    (next _ _ _ _ (of_entries (codes "nodes") string c.args.nodes.now) _ c.in_ok-put_array.ensures refl
    (next _ _ _ _ (of_text (codes "plugin") (codes "orchestrator")) _ c.in_ok-put_text.ensures refl
    (next _ _ _ _ (of_number (codes "session") c.args.session) _ c.in_ok-put_number.ensures refl
    (next _ _ _ _ _ _ c.in_ok-put_array-2.ensures (of-seen (codes "volumes") kept_entry (λ (row : Bor Row). row_shown row.now) c.args.rows.now) last)))))
    c.end_object.ensures
