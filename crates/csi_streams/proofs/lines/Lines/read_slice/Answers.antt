use Rattle.std.proofs.Common.{refl}
use Rattle.csi_streams.specs.declared.lines.Lines.{Lines}
use Rattle.csi_streams.specs.Public.State.{State}
use Rattle.csi_streams.proofs.LineReaching.{begun-lines}
use Rattle.csi_streams.proofs.LineEnding.{ended, slice_stopped}
use Rattle.csi_streams.proofs.lines.Lines.read_slice.Goals as goal

pub returns-in-Ok : goal.returns-in-Ok
returns-in-Ok g c = λ begins lines rest of.
    let h = g.H.LineHandler in
    let first : State (Lines g.row.H.Denot) g.row.S.Denot g.row.O.Denot = record { own = c.args.self.now; store = c.args.store.now; out = c.args.out.now } in
    ended h.handles h.flushes h.is_flushed h.stops first c.args.input.now (record { own = c.drive_slice.new.consumer; store = c.drive_slice.new.store; out = c.drive_slice.new.out }) (record { own = c.end.new.self; store = c.end.new.store; out = c.end.new.out })
    _ (Unit {0}) c.end.result (c.in-Ok.ensures (begun-lines h.handles h.flushes h.is_flushed first begins.buffer begins.count begins.flushed)) tt refl c.end.ensures lines rest of

pub returns-in-Err : goal.returns-in-Err
returns-in-Err g c = λ begins lines rest of.
    let h = g.H.LineHandler in
    let first : State (Lines g.row.H.Denot) g.row.S.Denot g.row.O.Denot = record { own = c.args.self.now; store = c.args.store.now; out = c.args.out.now } in
    slice_stopped h.handles h.flushes h.is_flushed h.stops first (record { own = c.drive_slice.new.consumer; store = c.drive_slice.new.store; out = c.drive_slice.new.out }) c.args.input.now (Unit {0}) c.in-Err.fault
    (c.in-Err.ensures (begun-lines h.handles h.flushes h.is_flushed first begins.buffer begins.count begins.flushed)) lines rest of
