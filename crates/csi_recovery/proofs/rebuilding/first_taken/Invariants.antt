-- The ids of the first ones are below it.
use Rattle.std.proofs.Common.{map, take}
use Rattle.csi_orchestrator.specs.Public.Shown.{row_shown}
use Rattle.csi_recovery.specs.Public.Rebuilding.{AreBelow}
use Rattle.csi_recovery.proofs.rebuilding.first_taken.Given as goal

abbrev pub invariant-loop-index : goal.invariant-loop-index
invariant-loop-index l = AreBelow l.next_id (map row_shown (take l.index l.rows))
