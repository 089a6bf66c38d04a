-- The first events happened.
use Rattle.csi_world.proofs.Words.{[], take, Config, IsRun}
use Rattle.csi_world.specs.Public.System.{world_parts}
use Rattle.csi_world.proofs.simulation.occur_all.Given as goal

abbrev pub invariant-loop-event : goal.invariant-loop-event
invariant-loop-event l = (config : Config) → IsRun config [] (world_parts l.fn.system) → IsRun config (take l.event-index l.fn.events) (world_parts l.system)
