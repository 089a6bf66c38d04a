-- What the rows tell is what the history tells.
use Rattle.csi_orchestrator.proofs.Words.{◌∙◌, ap, OrchestratorParts, mark_in, mark_of, row_of, name_in}
use Rattle.csi_orchestrator.proofs.orchestrator.Orchestrator.known.Goals as goal

pub returns-clause-agrees : goal.returns-clause-agrees
returns-clause-agrees c history agrees =
    c.known_in.ensures ∙ ap (λ (p : OrchestratorParts). mark_in (mark_of c.args.thing.now) (row_of p.rows (name_in c.args.thing.now))) c.self.view_is ∙ agrees.same_marks c.args.thing.now
