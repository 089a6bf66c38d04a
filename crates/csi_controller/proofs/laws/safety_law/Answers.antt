-- From the empty controller on, each frame keeps it.
use Rattle.csi_controller.proofs.SafeStates.{came_exclusive}
use Rattle.csi_controller.proofs.laws.safety_law.Goals as goal

pub returns : goal.returns
returns c came = came_exclusive came
