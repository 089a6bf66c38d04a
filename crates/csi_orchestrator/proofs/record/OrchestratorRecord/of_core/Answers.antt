-- Its rows without their open calls keep the rules.
use Rattle.csi_orchestrator.proofs.Words.{◌≡◌, ◌∙◌, map, sym, ap, subst, rows_of, orchestrator_parts_shown, AreNodesFit}
use Rattle.csi_orchestrator.proofs.Words.{AreRestorable, row_shown, closed}
use Rattle.csi_orchestrator.proofs.ClosedRows.{shown-closed}
use Rattle.csi_orchestrator.proofs.RowsRestorable.{steady-restorable}
use Rattle.csi_orchestrator.proofs.record.OrchestratorRecord.of_core.Goals as goal

pub invariant_of-result : goal.invariant_of-result
invariant_of-result c =
    let core = c.args.core in
    let fit : AreNodesFit core.nodes.items = subst AreNodesFit c.as_slice.ensures.value (c.are_nodes_fit.ensures.fit c.if-not-are_nodes_fit.false) in
    let rows : map row_shown (rows_of c.close_all.new.self) ≡ map closed (map row_shown (rows_of core.catalog)) = ap (map row_shown) c.close_all.ensures.rows ∙ shown-closed (rows_of core.catalog) in (
      fit,
      subst (AreRestorable core.nodes.items) (sym rows) (steady-restorable (orchestrator_parts_shown core) c.requires.kept),
      c.close_all.ensures.indexed,
      c.close_all.ensures.known 0,
    )

pub returns-clause-value : goal.returns-clause-value
returns-clause-value c =
    let core = c.args.core in
    let rows : map row_shown (rows_of c.close_all.new.self) ≡ map closed (map row_shown (rows_of core.catalog)) = ap (map row_shown) c.close_all.ensures.rows ∙ shown-closed (rows_of core.catalog) in
    λ i. record { nodes = core.nodes.items; session = core.last.session; rows = rows i }
