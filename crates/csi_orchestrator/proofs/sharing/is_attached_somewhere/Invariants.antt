-- None of the first entries is so.
use Rattle.csi_orchestrator.proofs.Words.{◌≡◌, false, map, take, not, list_any, is_no, NodeEntryShown, node_entry_shown}
use Rattle.csi_orchestrator.proofs.sharing.is_attached_somewhere.Given as goal

abbrev pub invariant-loop-entry : goal.invariant-loop-entry
invariant-loop-entry l = list_any (λ (entry : NodeEntryShown). not (is_no entry.attached)) (map node_entry_shown (take l.entry-index l.entries)) ≡ false
