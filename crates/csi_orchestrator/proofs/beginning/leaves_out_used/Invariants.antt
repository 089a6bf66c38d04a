-- None of the first nodes is left out and used.
use Rattle.csi_orchestrator.proofs.Words.{◌≡◌, false, map, take, leaves_out_used, row_shown}
use Rattle.csi_orchestrator.proofs.beginning.leaves_out_used.Given as goal

abbrev pub invariant-loop-node : goal.invariant-loop-node
invariant-loop-node l = leaves_out_used (take l.node-index l.old) l.new (map row_shown l.rows) ≡ false
