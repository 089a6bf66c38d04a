-- What is left has two nodes of one id exactly where the whole list has.
use Rattle.std.proofs.Common.{◌≡◌, drop}
use Rattle.csi_types.specs.Public.Config.{has_same_node}
use Rattle.csi_types.proofs.config.has_same_node.Given as goal

abbrev pub invariant-loop-place : goal.invariant-loop-place
invariant-loop-place l = has_same_node (drop l.place l.nodes) ≡ has_same_node l.nodes
