-- By the rows.
use Rattle.std.proofs.Common.{refl}
use Rattle.csi_orchestrator.proofs.AskedPromises.{asked-promised}
use Rattle.csi_orchestrator.proofs.PromisesTold.{kept-promised}
use Rattle.csi_orchestrator.proofs.orchestrator.Orchestrator.create.Goals as goal

pub invariant_of-self : goal.invariant_of-self
invariant_of-self c = (kept-promised c.self.invariant.0 c.create.ensures.told tt, c.create.ensures.filed)

pub returns : goal.returns
returns c = asked-promised c.args.name c.self.view_is c.self.invariant.0 refl tt c.create.ensures.told tt tt tt
