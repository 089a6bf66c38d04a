-- What is left has two records of one node exactly where the whole list has.
use Rattle.csi_world.proofs.Words.{◌≡◌, drop, has_same_id}
use Rattle.csi_world.proofs.assembling.has_same_node.Given as goal

abbrev pub invariant-loop-place : goal.invariant-loop-place
invariant-loop-place l = has_same_id (drop l.place l.kept) ≡ has_same_id l.kept
