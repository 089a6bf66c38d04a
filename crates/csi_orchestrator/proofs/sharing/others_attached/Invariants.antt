-- Those of the first entries are counted.
use Rattle.csi_orchestrator.proofs.Words.{◌≡◌, take, not, count_by, ◌&&◌, same_text, NodeEntry, is_no}
use Rattle.csi_orchestrator.proofs.sharing.others_attached.Given as goal

abbrev pub invariant-loop-entry : goal.invariant-loop-entry
invariant-loop-entry l = l.count ≡ count_by (λ (entry : NodeEntry). not (same_text entry.node l.node) && not (is_no entry.attached)) (take l.entry-index l.entries)
