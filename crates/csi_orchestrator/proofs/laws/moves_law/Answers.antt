-- By rows that agree with the history.
use Rattle.csi_orchestrator.proofs.StepsAllowed.{moves-law}
use Rattle.csi_orchestrator.proofs.laws.moves_law.Goals as goal

pub returns : goal.returns
returns c = moves-law
