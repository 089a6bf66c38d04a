-- What is left passes exactly where the whole list does.
use Rattle.csi_orchestrator.proofs.Words.{◌≡◌, drop, list_all, is_other_target}
use Rattle.csi_orchestrator.proofs.judging.is_apart.Given as goal

abbrev pub invariant-loop-other : goal.invariant-loop-other
invariant-loop-other l = list_all (is_other_target l.target_entry) (drop l.other-index l.later) ≡ list_all (is_other_target l.target_entry) l.later
