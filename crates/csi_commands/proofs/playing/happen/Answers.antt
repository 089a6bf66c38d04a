-- It happens to each world that is shown.
use Rattle.csi_commands.proofs.Played.{event-happened, recovery-happened}
use Rattle.csi_commands.proofs.playing.happen.Goals as goal

pub returns-in-Occurs : goal.returns-in-Occurs
returns-in-Occurs c = rw c.in-Occurs.is (event-happened c.in-Occurs.event c.args.world c.occur.result c.occur.ensures.world c.occur.ensures.outcome)

pub returns-in-Recovers : goal.returns-in-Recovers
returns-in-Recovers c =
    rw c.in-Recovers.is (recovery-happened c.in-Recovers.recovery c.as_slice-nodes.result.now c.as_slice-given.result.now c.args.world c.recover_world.result c.as_slice-nodes.ensures c.as_slice-given.ensures c.recover_world.ensures)
