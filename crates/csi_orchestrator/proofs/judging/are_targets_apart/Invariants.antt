-- What is left passes exactly where the whole list does.
use Rattle.csi_orchestrator.proofs.Words.{◌≡◌, drop, are_targets_apart}
use Rattle.csi_orchestrator.proofs.judging.are_targets_apart.Given as goal

abbrev pub invariant-loop-place : goal.invariant-loop-place
invariant-loop-place l = are_targets_apart (drop l.place l.target_entries) ≡ are_targets_apart l.target_entries
