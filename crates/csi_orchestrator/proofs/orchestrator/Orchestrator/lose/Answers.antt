-- By the rows.
use Rattle.csi_orchestrator.proofs.Words.{◌≡◌, ◌+◌, ◌^◌, subst, IfErr, OrchestratorParts}
use Rattle.csi_orchestrator.specs.declared.fault.OrchFault.TheVariants as Fault
use Rattle.csi_orchestrator.proofs.BeginningsTold.{loss-value}
use Rattle.csi_orchestrator.proofs.PromisesTold.{ok-promised, err-promised, kept-promised}
use Rattle.csi_orchestrator.proofs.orchestrator.Orchestrator.lose.Goals as goal

pub invariant_of-self : goal.invariant_of-self
invariant_of-self c = (kept-promised c.self.invariant.0 c.lose.ensures.told tt, c.lose.ensures.filed)

pub returns-clause-value : goal.returns-clause-value
returns-clause-value c = loss-value c.args.node.now c.lose.result c.self.view_is c.lose.ensures.told

pub returns-clause-ok : goal.returns-clause-ok
returns-clause-ok c = ok-promised c.self.view_is c.self.invariant.0 c.lose.ensures.told

pub returns-clause-err : goal.returns-clause-err
returns-clause-err c = err-promised c.self.view_is c.self.invariant.0 c.lose.ensures.told

pub returns-clause-spent : goal.returns-clause-spent
returns-clause-spent c = subst (λ (p : OrchestratorParts). IfErr c.lose.result (λ fault. (fault ≡ Fault.NumbersSpent) × (p.last.session + 1 ≡ 2 ^ 64))) c.self.view_is c.lose.ensures.spent
