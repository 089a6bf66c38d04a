-- A use there is stopped, and any other goal stays.
use Rattle.csi_orchestrator.proofs.Words.{map, refl, sym, ◌∙◌, node_entry_shown, row_shown}
use Rattle.csi_orchestrator.proofs.RowsLost.{stopped-row}
use Rattle.csi_orchestrator.proofs.beginning.lose_at.Goals as goal

pub returns-then-is_use_at : goal.returns-then-is_use_at
returns-then-is_use_at c =
    stopped-row c.args.node.now (row_shown c.args.row.now) (map node_entry_shown c.lose_entries.new.entries.items) c.lose_entries.ensures c.args.row.now.goal refl
    (sym c.is_use_at.ensures ∙ c.if-is_use_at.true) _ c.stop_use.ensures.goal
