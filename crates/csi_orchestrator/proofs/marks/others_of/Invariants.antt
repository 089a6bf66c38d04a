-- Those of the first targets are counted.
use Rattle.csi_orchestrator.proofs.Words.{◌≡◌, take, not, count_by, ◌&&◌, same_text, TargetEntry, is_no}
use Rattle.csi_orchestrator.proofs.marks.others_of.Given as goal

abbrev pub invariant-loop-target_entry : goal.invariant-loop-target_entry
invariant-loop-target_entry l = l.count ≡ count_by (λ (target_entry : TargetEntry). not (same_text target_entry.target l.target) && not (is_no target_entry.published)) (take l.target_entry-index l.target_entries)
