use Rattle.csi_service.proofs.OrchestratorRecords.{opened-so}
use Rattle.csi_service.proofs.orchestrator_service.OrchestratorService.open.Goals as goal

pub returns-in-Ok-Opened-clause-opened : goal.returns-in-Ok-Opened-clause-opened
returns-in-Ok-Opened-clause-opened g c =
    opened-so c.args.least c.args.nodes.items (g.K.Keep.store c.args.keep.now) (g.K.Keep.store c.open.new.keep) c.in-Ok-Opened.field-0 c.in-Ok-Opened.service c.in-Ok-Opened.field-0-is c.in-Ok-Opened.ensures.opened
