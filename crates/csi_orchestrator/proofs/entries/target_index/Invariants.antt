-- None of the first ones is of it.
use Rattle.csi_orchestrator.proofs.Words.{◌≡◌, false, take, list_any, same_text, TargetEntry}
use Rattle.csi_orchestrator.proofs.entries.target_index.Given as goal

abbrev pub invariant-loop-index : goal.invariant-loop-index
invariant-loop-index l = list_any (λ (target_entry : TargetEntry). same_text target_entry.target l.target) (take l.index l.target_entries) ≡ false
