-- By the rules of the rows and what each of them keeps.
use Rattle.csi_orchestrator.proofs.BoundsStay.{bounded}
use Rattle.csi_orchestrator.proofs.laws.bounds_law.Goals as goal

pub returns : goal.returns
returns c = bounded c.args.orchestrator.now c.session-session.ensures.kept.within
