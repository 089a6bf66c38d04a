-- Each beginning of a run is a run, whose world is one to which steps lead.
use Rattle.csi_world.proofs.Words.{subst, take, Safe}
use Rattle.csi_world.proofs.laws.runs_law.Goals as goal

pub returns : goal.returns
returns c config events count =
    let made = c.runs_are_steps.ensures config (take count events) in
    subst Safe made.same_world (c.safety_law.ensures config made.choices made.may)
