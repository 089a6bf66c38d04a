-- What is opened keeps what its type keeps, which is told.
use Rattle.csi_orchestrator.proofs.Opened.{opened}
use Rattle.csi_orchestrator.proofs.laws.records_law.Goals as goal

pub returns : goal.returns
returns c = λ kept nodes rules ok. (opened kept nodes rules ok).told
