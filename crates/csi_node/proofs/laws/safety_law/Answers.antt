-- From the joined node on, each frame keeps it.
use Rattle.csi_node.proofs.SafeStates.{all_right}
use Rattle.csi_node.proofs.laws.safety_law.Goals as goal

pub returns : goal.returns
returns c = all_right
