-- What is left passes exactly where the whole list does.
use Rattle.csi_orchestrator.proofs.Words.{◌≡◌, ◌==◌, drop, true, is_at_target}
use Rattle.csi_orchestrator.proofs.judging.is_at_target.Given as goal

abbrev pub invariant-loop-place : goal.invariant-loop-place
invariant-loop-place l = is_at_target l.must l.entry.attached l.entry.staged l.target (l.place == 0) (drop l.place l.target_entries) ≡ is_at_target l.must l.entry.attached l.entry.staged l.target true l.target_entries
