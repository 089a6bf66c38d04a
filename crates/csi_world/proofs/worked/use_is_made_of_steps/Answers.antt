-- As every run is.
use Rattle.csi_world.specs.Private.Worked.{config, using}
use Rattle.csi_world.proofs.worked.use_is_made_of_steps.Goals as goal

pub returns : goal.returns
returns c = c.runs_are_steps.ensures config using
