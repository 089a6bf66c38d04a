-- Each call is closed, and then rows are forgotten.
use Rattle.csi_orchestrator.proofs.Words.{◌≡◌, ◌∙◌, List, None, map, sym, ap, subst, AllByRecursion, Row, RowShown}
use Rattle.csi_orchestrator.proofs.Words.{remembered, rows_of, row_shown}
use Rattle.csi_orchestrator.proofs.BeginningsTold.{all-closed, each-unshown, remembered-closed}
use Rattle.csi_orchestrator.proofs.ClosedRows.{shown-closed}
use Rattle.csi_orchestrator.proofs.state.OrchestratorCore.begin.Goals as goal

pub forget-requires-clause-closed : goal.forget-requires-clause-closed
forget-requires-clause-closed c = subst (AllByRecursion (λ (row : Row). row.open_call ≡ None)) (sym c.close_all.ensures.rows) (all-closed (rows_of c.args.self.now.catalog))

pub returns-clause-rows : goal.returns-clause-rows
returns-clause-rows c = c.forget.ensures.rows ∙ ap (λ (rows : List Row). remembered (map row_shown rows)) c.close_all.ensures.rows ∙ ap remembered (shown-closed (rows_of c.args.self.now.catalog))

pub returns-clause-closed : goal.returns-clause-closed
returns-clause-closed c =
    let rows = c.forget.ensures.rows ∙ ap (λ (rows : List Row). remembered (map row_shown rows)) c.close_all.ensures.rows ∙ ap remembered (shown-closed (rows_of c.args.self.now.catalog)) in
    each-unshown (rows_of c.forget.new.self) (subst (AllByRecursion (λ (row : RowShown). row.open_call ≡ None)) (sym rows) (remembered-closed (map row_shown (rows_of c.args.self.now.catalog))))

pub returns-clause-filed : goal.returns-clause-filed
returns-clause-filed c = record { indexed = c.forget.ensures.indexed; known = c.forget.ensures.known 0 }
