-- The session never goes back.
use Rattle.csi_node.proofs.JoiningLaw.{stale, rises}
use Rattle.csi_node.proofs.laws.joining_law.Goals as goal

pub returns : goal.returns
returns c = record { stale = stale; rises = rises }
