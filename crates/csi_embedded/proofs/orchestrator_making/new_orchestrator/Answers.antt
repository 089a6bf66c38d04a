use Rattle.csi_embedded.proofs.MadeOrchestrators.{no-orchestrator}
use Rattle.csi_embedded.proofs.orchestrator_making.new_orchestrator.Goals as goal

pub returns-in-Err-clause-refused : goal.returns-in-Err-clause-refused
returns-in-Err-clause-refused c = no-orchestrator c.args.config.now c.in-Err.ending c.in-Err.ensures.refused
