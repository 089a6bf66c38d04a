-- By the rows.
use Rattle.csi_orchestrator.proofs.BeginningsTold.{restart-value, restart-nodes}
use Rattle.csi_orchestrator.proofs.PromisesTold.{ok-promised, err-promised, kept-promised}
use Rattle.csi_orchestrator.proofs.orchestrator.Orchestrator.restart.Goals as goal

pub invariant_of-self : goal.invariant_of-self
invariant_of-self c = (kept-promised c.self.invariant.0 c.restart.ensures.told tt, c.restart.ensures.filed)

pub returns-clause-value : goal.returns-clause-value
returns-clause-value c = restart-value c.args.nodes.items c.restart.result c.self.view_is c.restart.ensures.told

pub returns-clause-ok : goal.returns-clause-ok
returns-clause-ok c = ok-promised c.self.view_is c.self.invariant.0 c.restart.ensures.told

pub returns-clause-err : goal.returns-clause-err
returns-clause-err c = err-promised c.self.view_is c.self.invariant.0 c.restart.ensures.told

pub returns-clause-nodes : goal.returns-clause-nodes
returns-clause-nodes c = restart-nodes c.args.nodes.items c.restart.result c.self.view_is c.restart.ensures.told
