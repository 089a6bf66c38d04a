-- By the rows, and by each history that they show.
use Rattle.csi_orchestrator.proofs.Words.{◌∙◌, sym, subst, OrchestratorParts, Shows, orchestrator_parts_shown}
use Rattle.csi_orchestrator.proofs.StaleReplies.{history-says}
use Rattle.csi_orchestrator.proofs.orchestrator.Orchestrator.is_told_stale.Goals as goal

pub returns : goal.returns
returns c = λ history form shown.
    let frame = c.args.frame.now in
    let parts = orchestrator_parts_shown c.self.inside.core in
    c.is_told_stale.ensures
    ∙ history-says parts history frame.number frame.party frame.body form c.self.invariant.0.sound (subst (λ (p : OrchestratorParts). Shows p history) (sym c.self.view_is) shown)
