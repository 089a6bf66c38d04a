use Rattle.csi_streams.proofs.IdleParts.{Merged}
use Rattle.csi_streams.proofs.merging.merge_heads.Given as goal

abbrev pub invariant-loop-at : goal.invariant-loop-at
invariant-loop-at l = Merged l.fn.parts.items l.parts.items l.at l.is_there

abbrev pub decreases-loop-at : goal.decreases-loop-at
decreases-loop-at l = l.at
