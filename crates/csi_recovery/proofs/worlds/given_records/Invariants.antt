-- The records of the first nodes that are given were read.
use Rattle.std.proofs.Common.{take}
use Rattle.csi_world.specs.Public.Given.{AreThose}
use Rattle.csi_recovery.specs.Private.Worlds.{IsCopyOf}
use Rattle.csi_recovery.proofs.worlds.given_records.Given as goal

abbrev pub invariant-loop-node : goal.invariant-loop-node
invariant-loop-node l = AreThose IsCopyOf l.given (take l.node-index l.nodes) l.kept.items
