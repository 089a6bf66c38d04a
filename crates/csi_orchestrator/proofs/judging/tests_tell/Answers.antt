-- Rule by rule.
use Rattle.csi_orchestrator.proofs.JudgedRows.{restorable_tells}
use Rattle.csi_orchestrator.proofs.judging.tests_tell.Goals as goal

pub returns-clause-passing : goal.returns-clause-passing
returns-clause-passing c nodes row = (restorable_tells nodes row).from

pub returns-clause-keeping : goal.returns-clause-keeping
returns-clause-keeping c nodes row = (restorable_tells nodes row).back
