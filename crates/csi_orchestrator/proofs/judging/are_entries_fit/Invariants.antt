-- What is left passes exactly where the whole list does.
use Rattle.csi_orchestrator.proofs.Words.{◌≡◌, drop, are_entries_fit}
use Rattle.csi_orchestrator.proofs.judging.are_entries_fit.Given as goal

abbrev pub invariant-loop-place : goal.invariant-loop-place
invariant-loop-place l = are_entries_fit l.nodes l.arguments (drop l.place l.entries) ≡ are_entries_fit l.nodes l.arguments l.entries
