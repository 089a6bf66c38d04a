-- The first events were told.
use Rattle.csi_world.specs.Public.System.{world_parts}
use Rattle.csi_world.proofs.ToldEvents.{IsToldTo}
use Rattle.csi_world.proofs.telling.told_one_by_one.Given as goal

abbrev pub invariant-loop-event : goal.invariant-loop-event
invariant-loop-event l = IsToldTo l.config l.yielded (world_parts l.system) l.told.items
