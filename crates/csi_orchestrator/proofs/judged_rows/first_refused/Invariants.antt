-- The rows so far are a record's.
use Rattle.csi_orchestrator.proofs.Words.{ℕ, List, nat_cmp, contains_by, slice_cmp}
use Rattle.csi_orchestrator.proofs.FirstRefused.{SoFar}
use Rattle.csi_orchestrator.proofs.judged_rows.first_refused.Given as goal

abbrev pub invariant-loop-index : goal.invariant-loop-index
invariant-loop-index l = SoFar l.nodes l.rows l.index (λ (name : List ℕ). contains_by (λ known. slice_cmp nat_cmp name known.now) l.names)
