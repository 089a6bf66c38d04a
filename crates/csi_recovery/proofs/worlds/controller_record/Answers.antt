-- The record is of what the controller knows.
use Rattle.csi_recovery.proofs.WorldsRecovered.{controller-kept}
use Rattle.csi_recovery.proofs.worlds.controller_record.Goals as goal

pub returns-in-Ok : goal.returns-in-Ok
returns-in-Ok c = λ state shows. controller-kept (c.args.controller.now).config c.in-Ok.kept state (c.in-Ok.ensures state shows)
