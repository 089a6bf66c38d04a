-- Where no row has the name, its row will stand behind all.
use Rattle.std.proofs.Common.{◌∙◌, ap, sym, length}
use Rattle.std.proofs.lemmas.List.{length-map}
use Rattle.csi_types.specs.Model.Same.{same_text}
use Rattle.csi_orchestrator.specs.Model.Shown.{RowShown}
use Rattle.csi_orchestrator.specs.Public.Shown.{row_shown}
use Rattle.csi_service.proofs.OrchestratorChanges.{place-missed}
use Rattle.csi_service.proofs.orchestrator_changes.place_for.Goals as goal

pub returns-in-None : goal.returns-in-None
returns-in-None c =
    sym (length-map c.rows.result.now row_shown) ∙ ap length c.rows.ensures.value
    ∙ place-missed (λ (row : RowShown). same_text row.name c.args.name.now) c.args.orchestrator.now.rows (sym c.in-None.ensures)
