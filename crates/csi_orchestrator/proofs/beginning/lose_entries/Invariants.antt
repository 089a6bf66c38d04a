-- The entries before this one lost the node, and the others are as they were.
use Rattle.csi_orchestrator.proofs.Words.{◌≡◌, ◌++◌, map, take, drop, entry_at_loss, node_entry_shown}
use Rattle.csi_orchestrator.proofs.beginning.lose_entries.Given as goal

abbrev pub invariant-loop-entry : goal.invariant-loop-entry
invariant-loop-entry l =
    map node_entry_shown l.entry-items ≡ map (entry_at_loss l.node) (take l.entry-index (map node_entry_shown l.fn.entries.items)) ++ drop l.entry-index (map node_entry_shown l.fn.entries.items)
