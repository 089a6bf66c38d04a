-- By the law of the orchestrator's moves.
use Rattle.csi_world.proofs.RunSteps.{runs-are-steps}
use Rattle.csi_world.proofs.laws.runs_are_steps.Goals as goal

pub returns : goal.returns
returns c = runs-are-steps c.moves_law.ensures
