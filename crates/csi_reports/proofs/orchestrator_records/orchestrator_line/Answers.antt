-- The text is that of the tokens of the record, with its rows in place.
use Rattle.std.proofs.Common.{◌≡◌, List, map, subst, ap, ◌∙◌, refl}
use Rattle.std.specs.Borrow.{Bor}
use Rattle.serde_json.specs.Written.{compact_text}
use Rattle.csi_orchestrator.specs.declared.row.Row.{Row}
use Rattle.csi_orchestrator.specs.Model.Shown.{RowShown}
use Rattle.csi_orchestrator.specs.Public.Shown.{row_shown}
use Rattle.csi_reports.specs.Public.ByName.{row_place}
use Rattle.csi_reports.specs.Public.Order.{IsInPlace}
use Rattle.csi_reports.specs.Public.OrchestratorRecords.{orchestrator_entry}
use Rattle.csi_reports.proofs.WrittenSteps.{alone}
use Rattle.csi_reports.proofs.orchestrator_records.orchestrator_line.Goals as goal

pub returns : goal.returns
returns c =
    let see : Bor Row → RowShown = λ row. row_shown row.now in
    let rows : List RowShown = map see c.in_ok-rows.rows.items in
    let given = orchestrator_entry c.nodes.result.now c.session.result (map see c.deref.result.now) in
    let same : given ≡ orchestrator_entry c.args.kept.now.nodes c.args.kept.now.session rows = rw (c.nodes.ensures.value, c.session.ensures, c.deref.ensures.value) refl in
    record {
      rows = rows;
      of = subst (λ (from : List RowShown). IsInPlace row_place from rows) c.rows.ensures.value c.in_ok-rows.ensures;
      written = c.into_string.ensures given (alone _ _ _ c.new-out.ensures c.in_ok-write_record.ensures) ∙ ap compact_text same;
    }
