-- What is left passes exactly where the whole list does.
use Rattle.csi_orchestrator.proofs.Words.{◌≡◌, drop, list_all, is_published}
use Rattle.csi_orchestrator.proofs.judging.are_published.Given as goal

abbrev pub invariant-loop-target_entry : goal.invariant-loop-target_entry
invariant-loop-target_entry l = list_all is_published (drop l.target_entry-index l.target_entries) ≡ list_all is_published l.target_entries
