-- The rows of the catalog, by what the type keeps of them.
use Rattle.csi_orchestrator.proofs.Words.{◌≡◌, refl, sym, subst, rules, AllByRecursion, IsRowFew}
use Rattle.csi_orchestrator.proofs.Words.{orchestrator_parts_shown, rows_of}
use Rattle.csi_orchestrator.proofs.FewRows.{rows-few}
use Rattle.csi_orchestrator.proofs.orchestrator.Orchestrator.rows.Goals as goal

pub returns-clause-few : goal.returns-clause-few
returns-clause-few c =
    let same : c.as_slice.result.now ≡ rows_of c.self.inside.core.catalog = search rules in
    subst (AllByRecursion IsRowFew) (sym same) (rows-few (orchestrator_parts_shown c.self.inside.core) _ c.self.invariant.0 refl)
