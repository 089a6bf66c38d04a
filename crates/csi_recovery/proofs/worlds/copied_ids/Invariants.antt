-- The first ids were copied.
use Rattle.std.proofs.Common.{◌≡◌, take}
use Rattle.csi_recovery.proofs.worlds.copied_ids.Given as goal

abbrev pub invariant-loop-node : goal.invariant-loop-node
invariant-loop-node l = l.ids.items ≡ take l.node-index l.nodes
