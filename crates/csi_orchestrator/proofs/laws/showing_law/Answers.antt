-- By what its type keeps.
use Rattle.csi_orchestrator.proofs.laws.showing_law.Goals as goal

pub returns : goal.returns
returns c = c.session-session.ensures.kept.told
