-- A refusal is one of what waits.
use Rattle.csi_streams.proofs.WaitingStops.{stops-at-once}
use Rattle.csi_orchestration.proofs.LinesProgress.{not-so}
use Rattle.csi_orchestration.proofs.lines_serving.handling.ResponderHandlerLineHandlerCounted.flush.Goals as goal

pub returns-in-Err-clause-err : goal.returns-in-Err-clause-err
returns-in-Err-clause-err g c = (stops-at-once g.K.Keep.store g.W.Write.contents _ _ c.in-Err.stop c.in-Err.ensures.err, λ older. not-so older)
