use Rattle.csi_embedded.proofs.MadeOrchestrators.{no-nodes}
use Rattle.csi_embedded.proofs.orchestrator_making.nodes_of.Goals as goal

pub returns-in-Err-clause-refused : goal.returns-in-Err-clause-refused
returns-in-Err-clause-refused c = no-nodes c.args.config.now c.in-Err.ending c.in-Err.ensures.refused
