-- The rows so far are a record's.
use Rattle.csi_node.proofs.FirstRefused.{SoFar}
use Rattle.csi_node.proofs.judging.first_refused.Given as goal

-- the rows so far are a record's, and this is their last id
abbrev pub invariant-loop-index : goal.invariant-loop-index
invariant-loop-index l = SoFar l.session l.rows l.index l.last
