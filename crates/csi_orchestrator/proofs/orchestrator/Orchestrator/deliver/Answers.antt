-- By the rows.
use Rattle.csi_orchestrator.proofs.Words.{None, Ignored, Comes, Hears, hears}
use Rattle.csi_orchestrator.proofs.ChangedRows.{heard-promised}
use Rattle.csi_orchestrator.proofs.PromisesTold.{ok-promised, err-promised, kept-promised, nodes-promised, answered-promised}
use Rattle.csi_orchestrator.proofs.orchestrator.Orchestrator.deliver.Goals as goal

pub invariant_of-self : goal.invariant_of-self
invariant_of-self c = (kept-promised c.self.invariant.0 c.deliver.ensures.told c.deliver.ensures.allowed, c.deliver.ensures.filed)

pub returns-clause-ok : goal.returns-clause-ok
returns-clause-ok c = ok-promised c.self.view_is c.self.invariant.0 c.deliver.ensures.told

pub returns-clause-err : goal.returns-clause-err
returns-clause-err c = err-promised c.self.view_is c.self.invariant.0 c.deliver.ensures.told

pub returns-clause-nodes : goal.returns-clause-nodes
returns-clause-nodes c = nodes-promised c.self.view_is c.self.invariant.0 c.deliver.ensures.told tt

pub returns-clause-ignored : goal.returns-clause-ignored
returns-clause-ignored c = λ history form agrees heard. c.deliver.ensures.ignored
    (answered-promised (Comes c.args.frame.now) (Hears Ignored) c.self.view_is c.self.invariant.0 history form agrees heard)

pub returns-clause-quiet : goal.returns-clause-quiet
returns-clause-quiet c = λ history form agrees heard. c.deliver.ensures.quiet (answered-promised (Comes c.args.frame.now) (hears None) c.self.view_is c.self.invariant.0 history form agrees heard)

pub returns-clause-changed : goal.returns-clause-changed
returns-clause-changed c = heard-promised c.self.inside.core c.args.frame.now c.self.view_is c.self.invariant.0 c.self.invariant.1 c.deliver.ensures.told
