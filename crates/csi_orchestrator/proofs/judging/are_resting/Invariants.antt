-- What is left passes exactly where the whole list does.
use Rattle.csi_orchestrator.proofs.Words.{◌≡◌, drop, list_all, is_resting}
use Rattle.csi_orchestrator.proofs.judging.are_resting.Given as goal

abbrev pub invariant-loop-entry : goal.invariant-loop-entry
invariant-loop-entry l = list_all is_resting (drop l.entry-index l.entries) ≡ list_all is_resting l.entries
