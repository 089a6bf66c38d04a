-- By the plugins' laws.
use Rattle.csi_world.proofs.WorldSafety.{worlds_are_safe}
use Rattle.csi_world.proofs.laws.safety_law.Goals as goal

pub returns : goal.returns
returns c = worlds_are_safe (record { controller = c.delivery_law.ensures; node = c.delivery_law-2.ensures; publishing = c.safety_law.ensures })
