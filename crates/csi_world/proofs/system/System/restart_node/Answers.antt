-- The node is put where it stood.
use Rattle.csi_world.specs.Public.System.{world_parts}
use Rattle.csi_world.proofs.SystemCalls.{node-restarts, nowhere-restarts}
use Rattle.csi_world.proofs.system.System.restart_node.Goals as goal

pub returns-in_ok-node-in-Some : goal.returns-in_ok-node-in-Some
returns-in_ok-node-in-Some c = λ world own shows.
    node-restarts (world_parts c.args.self.now) c.args.id.now c.in-Some.place c.index.result.now c.in_ok-node-in-Some.node world own shows (cc) c.index.ensures c.in_ok-node-in-Some.ensures

pub returns-in-None : goal.returns-in-None
returns-in-None c = λ world own shows. nowhere-restarts (world_parts c.args.self.now) c.args.id.now world own shows (cc)
