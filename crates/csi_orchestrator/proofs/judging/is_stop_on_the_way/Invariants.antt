-- What is left passes exactly where the whole list does.
use Rattle.csi_orchestrator.proofs.Words.{◌≡◌, drop, is_stop_on_the_way}
use Rattle.csi_orchestrator.proofs.judging.is_stop_on_the_way.Given as goal

abbrev pub invariant-loop-place : goal.invariant-loop-place
invariant-loop-place l = is_stop_on_the_way l.node l.target (drop l.place l.entries) ≡ is_stop_on_the_way l.node l.target l.entries
