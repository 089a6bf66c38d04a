-- The row at the index.
use Rattle.csi_orchestrator.proofs.RowsForgotten.{kept-name, lost-at}
use Rattle.csi_orchestrator.proofs.RowsUnderNames.{names-set}
use Rattle.csi_orchestrator.proofs.catalog.Catalog.lose_row.Goals as goal

pub returns-clause-rows : goal.returns-clause-rows
returns-clause-rows c = lost-at c.args.node.now c.args.self.now c.args.index c.index_mut.result.now c.lose_at.new.row c.index_mut.ensures.value c.lose_at.ensures

pub returns-clause-names : goal.returns-clause-names
returns-clause-names c = λ names.
    names-set c.args.self.now c.args.index c.index_mut.result.now c.lose_at.new.row names c.index_mut.ensures.value (kept-name c.args.node.now c.index_mut.result.now c.lose_at.new.row c.lose_at.ensures)
