-- So many were delivered.
use Rattle.csi_world.proofs.Words.{List, Event, Config, IsOfOneMake, IsRun}
use Rattle.csi_world.specs.Public.System.{world_parts}
use Rattle.csi_world.proofs.SettledEvents.{HasDelivered}
use Rattle.csi_world.proofs.system.System.deliver_next.Given as goal

abbrev pub invariant-loop-count : goal.invariant-loop-count
invariant-loop-count l =
    ((config : Config) (events : List Event) → IsRun config events (world_parts l.fn.self) → HasDelivered config events l.name l.first l.count (world_parts l.self))
    × IsOfOneMake (world_parts l.fn.self) (world_parts l.self)
