-- None of the first ones is of it.
use Rattle.csi_orchestrator.proofs.Words.{◌≡◌, false, take, list_any, same_text, NodeEntry}
use Rattle.csi_orchestrator.proofs.entries.node_index.Given as goal

abbrev pub invariant-loop-index : goal.invariant-loop-index
invariant-loop-index l = list_any (λ (entry : NodeEntry). same_text entry.node l.node) (take l.index l.entries) ≡ false
