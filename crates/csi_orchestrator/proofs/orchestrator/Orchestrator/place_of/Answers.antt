-- Among the rows as they are shown.
use Rattle.csi_orchestrator.proofs.Words.{refl, sym, ◌∙◌, ap, same_text, Row, RowShown, OrchestratorParts, rows_of}
use Rattle.csi_orchestrator.proofs.Words.{place_by_name, row_shown}
use Rattle.csi_orchestrator.proofs.RowsUnderNames.{position-map}
use Rattle.csi_orchestrator.proofs.orchestrator.Orchestrator.place_of.Goals as goal

pub returns : goal.returns
returns c =
    let name = c.args.name.now in
    c.index_of.ensures.index
    ∙ sym (position-map row_shown (λ (r : RowShown). same_text r.name name) (λ (r : Row). same_text r.name name) (rows_of c.self.inside.core.catalog) (λ r. refl))
    ∙ ap (λ (p : OrchestratorParts). place_by_name name p.rows) c.self.view_is
