-- At none of the first rows may the volume be attached to the node.
use Rattle.csi_orchestrator.proofs.Words.{◌≡◌, false, map, take, is_used_in, row_shown}
use Rattle.csi_orchestrator.proofs.beginning.is_used.Given as goal

abbrev pub invariant-loop-row : goal.invariant-loop-row
invariant-loop-row l = is_used_in (map row_shown (take l.row-index l.rows)) l.node ≡ false
