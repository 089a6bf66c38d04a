-- From the joined node on, each frame keeps it.
use Rattle.csi_node.specs.Model.State.{joined_node}
use Rattle.csi_node.specs.Public.Fenced.{after_frames}
use Rattle.csi_node.proofs.SessionsLaw.{all_current, remembers}
use Rattle.csi_node.proofs.laws.sessions_law.Goals as goal

pub returns : goal.returns
returns c node session frames = remembers (after_frames node (joined_node session) frames) (all_current node session frames)
