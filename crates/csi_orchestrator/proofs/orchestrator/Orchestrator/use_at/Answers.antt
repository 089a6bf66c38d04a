-- By the rows.
use Rattle.csi_orchestrator.proofs.Words.{None, refl, ToUse, Sends}
use Rattle.csi_orchestrator.proofs.AskedPromises.{asked-promised}
use Rattle.csi_orchestrator.proofs.PromisesTold.{kept-promised, answered-promised}
use Rattle.csi_orchestrator.proofs.RestingRows.{rests-promised}
use Rattle.csi_orchestrator.proofs.RowsByName.{asked-move, sends-apart}
use Rattle.csi_orchestrator.proofs.orchestrator.Orchestrator.use_at.Goals as goal

pub invariant_of-self : goal.invariant_of-self
invariant_of-self c = (kept-promised c.self.invariant.0 (asked-move _ refl c.ask.ensures) tt, c.ask.ensures.filed)

pub returns : goal.returns
returns c = asked-promised c.args.name.now c.self.view_is c.self.invariant.0 refl tt (asked-move _ refl c.ask.ensures)
    (λ history form agrees answered. c.ask.ensures.quiet sends-apart
    (answered-promised (ToUse c.args.name.now (record { node = c.args.node; target = c.args.target; capability = c.args.capability; readonly = c.args.readonly }))
    (Sends None) c.self.view_is c.self.invariant.0 history form agrees answered))
    tt (rests-promised c.self.view_is tt (asked-move _ refl c.ask.ensures))
