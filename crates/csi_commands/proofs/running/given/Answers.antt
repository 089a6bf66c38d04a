use Rattle.csi_json.specs.Public.Schedule.{schedule_shown}
use Rattle.csi_commands.proofs.GivenOf.{given_is}
use Rattle.csi_commands.proofs.running.given.Goals as goal

pub returns : goal.returns
returns g c = given_is (λ given. given.items) g.D.Draws.draws c.args.command (schedule_shown c.args.schedule.now) c.in_ok-world.world c.given_of.result c.in_ok-world.ensures c.given_of.ensures
