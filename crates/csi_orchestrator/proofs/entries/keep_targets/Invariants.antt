-- The entries before this one are tidied, and the others are as they were.
use Rattle.csi_orchestrator.proofs.Words.{◌≡◌, ◌++◌, map, take, drop, node_entry_shown, with_kept_targets}
use Rattle.csi_orchestrator.proofs.entries.keep_targets.Given as goal

abbrev pub invariant-loop-entry : goal.invariant-loop-entry
invariant-loop-entry l =
    map node_entry_shown l.entry-items ≡ map with_kept_targets (take l.entry-index (map node_entry_shown l.fn.entries.items)) ++ drop l.entry-index (map node_entry_shown l.fn.entries.items)
