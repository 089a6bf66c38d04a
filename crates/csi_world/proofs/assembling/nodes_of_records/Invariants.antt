-- The first nodes were made.
use Rattle.std.proofs.Common.{◌≡◌}
use Rattle.csi_world.proofs.assembling.nodes_of_records.Given as goal

abbrev pub invariant-loop-one : goal.invariant-loop-one
invariant-loop-one l = l.made.items ≡ l.yielded
