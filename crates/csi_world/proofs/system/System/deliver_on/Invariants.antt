-- So many were delivered.
use Rattle.csi_world.proofs.Words.{World, ShowsWorld, IsSoundWorld}
use Rattle.csi_world.specs.Public.System.{world_parts}
use Rattle.csi_world.proofs.OnItsWay.{IsOn}
use Rattle.csi_world.proofs.system.System.deliver_on.Given as goal

abbrev pub invariant-loop-brought : goal.invariant-loop-brought
invariant-loop-brought l = (world : World) → IsSoundWorld (world_parts l.fn.self) → ShowsWorld (world_parts l.fn.self) world
    → IsOn (world_parts l.fn.self) (record { world = world; events = 1 }) l.name l.first l.brought (world_parts l.self)
