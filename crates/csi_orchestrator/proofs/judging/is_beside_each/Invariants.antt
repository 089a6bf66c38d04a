-- What is left passes exactly where the whole list does.
use Rattle.csi_orchestrator.proofs.Words.{◌≡◌, drop, list_all, are_beside}
use Rattle.csi_orchestrator.proofs.judging.is_beside_each.Given as goal

abbrev pub invariant-loop-other : goal.invariant-loop-other
invariant-loop-other l = list_all (are_beside l.entry) (drop l.other-index l.later) ≡ list_all (are_beside l.entry) l.later
