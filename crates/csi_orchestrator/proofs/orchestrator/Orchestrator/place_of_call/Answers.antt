-- Among the rows as they are shown.
use Rattle.csi_orchestrator.proofs.Words.{refl, sym, ◌∙◌, ap, Row, RowShown, OrchestratorParts, rows_of, is_numbered}
use Rattle.csi_orchestrator.proofs.Words.{place_by_call, row_shown}
use Rattle.csi_orchestrator.proofs.RowsUnderNames.{position-map}
use Rattle.csi_orchestrator.proofs.orchestrator.Orchestrator.place_of_call.Goals as goal

pub returns : goal.returns
returns c =
    let number = c.args.number in
    c.index_numbered.ensures
    ∙ sym (position-map row_shown (λ (r : RowShown). is_numbered number r.open_call) (λ (r : Row). is_numbered number r.open_call) (rows_of c.self.inside.core.catalog) (λ r. refl))
    ∙ ap (λ (p : OrchestratorParts). place_by_call number p.rows) c.self.view_is
