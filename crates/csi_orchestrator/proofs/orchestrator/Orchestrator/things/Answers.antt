-- What the rows know is what the history tells.
use Rattle.csi_orchestrator.proofs.Words.{◌≡◌, List, map, ◌∙◌, ap, sym, subst, IfOk, RowShown, OrchestratorParts}
use Rattle.csi_orchestrator.proofs.Words.{row_shown, AreSoundRows, known_by_rows, noted_in, ListsKnown}
use Rattle.csi_orchestrator.proofs.Lemmas.{IfOk-weaker}
use Rattle.csi_orchestrator.proofs.RowsWithoutNotes.{nothing-noted}
use Rattle.csi_orchestrator.proofs.ThingsNoted.{lists-told}
use Rattle.csi_orchestrator.proofs.orchestrator.Orchestrator.things.Goals as goal

pub returns-clause-marks : goal.returns-clause-marks
returns-clause-marks c =
    let same : map row_shown c.rows.result.now ≡ c.args.self.now.rows = ap (map row_shown) c.rows.ensures ∙ ap (λ (p : OrchestratorParts). p.rows) c.self.view_is in
    subst (λ (rows : List RowShown). AreSoundRows rows → IfOk c.things_in.result (λ things. ListsKnown (known_by_rows rows) things.items)) same c.things_in.ensures.known (subst (λ (p : OrchestratorParts). AreSoundRows p.rows) c.self.view_is c.self.invariant.0.sound)

pub returns-clause-agrees : goal.returns-clause-agrees
returns-clause-agrees c history agrees =
    IfOk-weaker c.things_in.result _ _ (λ things lists. lists-told c.args.self.now history things.items agrees lists) (returns-clause-marks c)

pub returns-clause-order : goal.returns-clause-order
returns-clause-order c = c.things_in.ensures.order (subst (λ rows. AreSoundRows (map row_shown rows)) (sym c.rows.ensures) c.self.invariant.0.sound)

pub returns-clause-empty : goal.returns-clause-empty
returns-clause-empty c = λ unknown.
    let same : map row_shown c.rows.result.now ≡ c.args.self.now.rows = ap (map row_shown) c.rows.ensures ∙ ap (λ (p : OrchestratorParts). p.rows) c.self.view_is in
    c.things_in.ensures.empty (ap noted_in same ∙ nothing-noted c.args.self.now.rows (subst (λ (p : OrchestratorParts). AreSoundRows p.rows) c.self.view_is c.self.invariant.0.sound) unknown)
