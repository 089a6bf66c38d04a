-- A refusal is one of what waits, or of a frame, and then what waits is settled.
use Rattle.std.proofs.Common.{refl}
use Rattle.csi_streams.proofs.WaitingStops.{stops-at-once, ends-so}
use Rattle.csi_service.proofs.serving.handling.CoreHandlerFrameHandlerCounted.handle.Goals as goal

pub returns-in-Err-clause-err : goal.returns-in-Err-clause-err
returns-in-Err-clause-err g c = stops-at-once g.K.Keep.store g.W.Write.contents _ _ c.in-Err.stop c.in-Err.ensures.err

pub returns-in-Ok-settle-clause-err : goal.returns-in-Ok-settle-clause-err
returns-in-Ok-settle-clause-err g c = (
  record { own = c.settle_many.new.self; store = c.settle_many.new.keep; out = c.settle_many.new.writer },
  record { own = c.add.new.self.waiting; store = c.settle_many.new.keep; out = c.settle_many.new.writer },
  c.in-Ok.ensures.ok,
  c.in-Err-add.ensures.err,
  refl,
  refl,
  (c.in-Ok-settle.ensures.ok, c.in-Ok-settle.ensures.none),
)

pub returns-in-Err-settle-clause-err : goal.returns-in-Err-settle-clause-err
returns-in-Err-settle-clause-err g c = (
  record { own = c.settle_many.new.self; store = c.settle_many.new.keep; out = c.settle_many.new.writer },
  record { own = c.add.new.self.waiting; store = c.settle_many.new.keep; out = c.settle_many.new.writer },
  c.in-Ok.ensures.ok,
  c.in-Err-add.ensures.err,
  refl,
  refl,
  ends-so g.K.Keep.store g.W.Write.contents _ _ c.in-Err-settle.stop c.in-Err-settle.ensures.err,
)
