use Rattle.std.proofs.Common.{arith}
use Rattle.csi_streams.specs.declared.frames.Frames.{Frames}
use Rattle.csi_streams.specs.Public.State.{State}
use Rattle.csi_streams.proofs.Reaching.{begun}
use Rattle.csi_streams.proofs.FrameEnding.{ended, slice_stopped}
use Rattle.csi_streams.proofs.frames.Frames.read_slice.Goals as goal

pub returns-in-Ok-clause-reads : goal.returns-in-Ok-clause-reads
returns-in-Ok-clause-reads g c = λ begins frames rest of.
    let h = g.H.FrameHandler in
    let first : State (Frames g.row.H.Denot) g.row.S.Denot g.row.O.Denot = record { own = c.args.self.now; store = c.args.store.now; out = c.args.out.now } in
    ended h.handles h.flushes h.is_flushed h.stops first c.args.input.now (record { own = c.drive_slice.new.consumer; store = c.drive_slice.new.store; out = c.drive_slice.new.out }) (Unit {0}) c.end.result
    (c.in-Ok.ensures (begun h.handles h.flushes h.is_flushed first begins.splitter begins.count begins.flushed)) tt c.end.ensures frames rest of

pub returns-in-Err-clause-reads : goal.returns-in-Err-clause-reads
returns-in-Err-clause-reads g c = λ begins frames rest of.
    let h = g.H.FrameHandler in
    let first : State (Frames g.row.H.Denot) g.row.S.Denot g.row.O.Denot = record { own = c.args.self.now; store = c.args.store.now; out = c.args.out.now } in
    slice_stopped h.handles h.flushes h.is_flushed h.stops first (record { own = c.drive_slice.new.consumer; store = c.drive_slice.new.store; out = c.drive_slice.new.out }) c.args.input.now (Unit {0}) c.in-Err.fault
    (λ i. omega (arith, c.type_inv.input i)) (c.in-Err.ensures (begun h.handles h.flushes h.is_flushed first begins.splitter begins.count begins.flushed)) frames rest of
