-- By the rows.
use Rattle.std.proofs.Common.{refl}
use Rattle.csi_orchestrator.proofs.AskedPromises.{asked-promised}
use Rattle.csi_orchestrator.proofs.PromisesTold.{kept-promised}
use Rattle.csi_orchestrator.proofs.RowsByName.{asked-move}
use Rattle.csi_orchestrator.proofs.orchestrator.Orchestrator.stop.Goals as goal

pub invariant_of-self : goal.invariant_of-self
invariant_of-self c = (kept-promised c.self.invariant.0 (asked-move _ refl c.ask.ensures) tt, c.ask.ensures.filed)

pub returns : goal.returns
returns c = asked-promised c.args.name.now c.self.view_is c.self.invariant.0 refl tt (asked-move _ refl c.ask.ensures) tt tt tt
