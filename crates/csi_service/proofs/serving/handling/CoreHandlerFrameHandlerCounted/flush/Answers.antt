-- A refusal is one of what waits.
use Rattle.csi_streams.proofs.WaitingStops.{stops-at-once}
use Rattle.csi_service.proofs.serving.handling.CoreHandlerFrameHandlerCounted.flush.Goals as goal

pub returns-in-Err-clause-err : goal.returns-in-Err-clause-err
returns-in-Err-clause-err g c = stops-at-once g.K.Keep.store g.W.Write.contents _ _ c.in-Err.stop c.in-Err.ensures.err
