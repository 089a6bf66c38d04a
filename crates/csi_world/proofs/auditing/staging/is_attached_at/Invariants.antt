-- All that is left is attached so exactly where all is.
use Rattle.csi_world.proofs.Words.{◌≡◌, drop, list_all, is_staged_right}
use Rattle.csi_world.proofs.auditing.staging.is_attached_at.Given as goal

abbrev pub invariant-loop-staged : goal.invariant-loop-staged
invariant-loop-staged l = list_all (is_staged_right l.rows l.node.id) (drop l.staged-index l.node.staged.items) ≡ list_all (is_staged_right l.rows l.node.id) l.node.staged.items
