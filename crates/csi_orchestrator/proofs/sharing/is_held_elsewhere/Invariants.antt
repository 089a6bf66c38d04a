-- None of the first entries is so.
use Rattle.csi_orchestrator.proofs.Words.{◌≡◌, false, map, take, list_any, is_for_one_node, is_so_elsewhere}
use Rattle.csi_orchestrator.proofs.Words.{node_entry_shown}
use Rattle.csi_orchestrator.proofs.sharing.is_held_elsewhere.Given as goal

abbrev pub invariant-loop-entry : goal.invariant-loop-entry
invariant-loop-entry l = list_any (is_so_elsewhere (is_for_one_node l.usage) l.usage.node) (map node_entry_shown (take l.entry-index l.entries)) ≡ false
