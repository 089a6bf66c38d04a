-- By what is kept of every run.
use Rattle.csi_world.specs.Model.After.{after}
use Rattle.csi_world.proofs.RoomForRows.{has-room}
use Rattle.csi_world.proofs.RunWorlds.{RunLaws, is-run}
use Rattle.csi_world.proofs.SettledRuns.{few-events, settles}
use Rattle.csi_world.proofs.laws.settling_law.Goals as goal

pub returns : goal.returns
returns c = λ config events name.
    let laws : RunLaws
    = record {
      plugins = record { controller = c.delivery_law.ensures; node = c.delivery_law-2.ensures; publishing = c.safety_law.ensures };
      moves = c.moves_law.ensures;
      form = c.form_law.ensures;
    } in
    (few-events (after config events).world name, settles laws name (has-room laws) (after config events).world (is-run laws config events))
