-- Why the rows of every orchestrator, once their open calls are given up, keep the rules of rows.
use Rattle.csi_orchestrator.proofs.Words.{◌≤◌, ℕ, List, [], ◌∷◌, map, refl, sym, subst, AllByRecursion, RowShown}
use Rattle.csi_orchestrator.proofs.Words.{OrchestratorParts, AreWithin, IsRestorable, AreRestorable, closed, IsSoundRow}
use Rattle.csi_orchestrator.proofs.Words.{AreSoundParts, AreSteadyRows}
use Rattle.csi_orchestrator.proofs.Lemmas.{length-map}
use Rattle.csi_orchestrator.proofs.EntryRules.{apart-map}
use Rattle.csi_orchestrator.proofs.KeptSteps.{closed-kept}
use Rattle.csi_orchestrator.proofs.RowRules.{kept-closed}

-- each of them
each-restorable : (nodes : List (List ℕ)) (rows : List RowShown) → AllByRecursion IsSoundRow rows → AllByRecursion (AreWithin nodes) rows → AreSteadyRows rows → AllByRecursion (IsRestorable nodes) (map closed rows)
each-restorable nodes [] sound within steady = tt
each-restorable nodes (row ∷ rows) sound within steady =
    (record { quiet = refl; sound = kept-closed row sound.0; steady = closed-kept ⊥ row steady.0; within = within.0 }, each-restorable nodes rows sound.1 within.1 steady.1)

-- all rows of an orchestrator
pub steady-restorable : (parts : OrchestratorParts) → AreSoundParts parts → AreRestorable parts.nodes (map closed parts.rows)
steady-restorable parts kept =
    record {
      few = subst (λ (n : ℕ). n ≤ 4096) (sym (length-map parts.rows closed)) kept.within.rows;
      names = apart-map (λ (r : RowShown). r.name) closed parts.rows (λ row. refl) kept.sound.names;
      each = each-restorable parts.nodes parts.rows kept.sound.each kept.within.entries kept.steady;
    }
