-- None of the first ones is it.
use Rattle.csi_orchestrator.proofs.Words.{◌≡◌, false, take, list_any, same_text}
use Rattle.csi_orchestrator.proofs.sharing.has_node.Given as goal

abbrev pub invariant-loop-own : goal.invariant-loop-own
invariant-loop-own l = list_any (same_text l.node) (take l.own-index l.nodes) ≡ false
