-- A stop is one by its parts.
use Rattle.csi_world.proofs.Words.{sym, ap, occurs}
use Rattle.csi_world.specs.Public.System.{world_parts}
use Rattle.csi_world.proofs.SystemInputs.{occurred-as}
use Rattle.csi_world.proofs.system.System.outcome_of.Goals as goal

pub returns-in-Stop : goal.returns-in-Stop
returns-in-Stop c = λ world own shows.
    occurred-as (world_parts c.args.self.now) (world_parts c.stop.new.self) c.stop.result (ap (occurs world) (sym c.in-Stop.is)) (c.stop.ensures world own shows)
