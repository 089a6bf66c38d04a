use Rattle.std.proofs.Common.{refl, Ok, Err}
use Rattle.csi_streams.specs.declared.lines.Lines.{Lines}
use Rattle.csi_streams.specs.Public.State.{State}
use Rattle.csi_streams.specs.Public.Lining.{inner_of_lines}
use Rattle.csi_streams.proofs.LineReaching.{begun-lines}
use Rattle.csi_streams.proofs.LineEnding.{rests_at_lines, read_whole, read_stopped}
use Rattle.csi_streams.proofs.lines.Lines.read.Goals as goal

pub drive-requires : goal.drive-requires
drive-requires g c =
    let h = g.H.LineHandler in
    let first : State (Lines g.row.H.Denot) g.row.S.Denot g.row.O.Denot = record { own = c.args.self.now; store = c.args.store.now; out = c.args.out.now } in
    record {
      begun = begun-lines h.handles h.flushes h.is_flushed first c.requires.begun.buffer c.requires.begun.count c.requires.begun.flushed;
      room = c.requires.room;
      asks = λ gone read now consumed rests. c.requires.asks gone read (inner_of_lines now) consumed (rests_at_lines h.handles h.flushes h.is_flushed h.stops first read now rests);
    }

pub returns-in-Ok-end-clause-reads : goal.returns-in-Ok-end-clause-reads
returns-in-Ok-end-clause-reads g c =
    let h = g.H.LineHandler in
    let first : State (Lines g.row.H.Denot) g.row.S.Denot g.row.O.Denot = record { own = c.args.self.now; store = c.args.store.now; out = c.args.out.now } in
    read_whole h.handles h.flushes h.is_flushed h.stops first (record { own = c.drive.new.consumer; store = c.drive.new.store; out = c.drive.new.out }) (record { own = c.end.new.self; store = c.end.new.store; out = c.end.new.out }) _
    (g.R.Source.remaining c.args.reader.now) (g.R.Source.remaining c.drive.new.reader) tt (Ok tt) c.in-Ok.ensures.drives refl c.in-Ok-end.ensures

pub returns-in-Err-end-clause-reads : goal.returns-in-Err-end-clause-reads
returns-in-Err-end-clause-reads g c =
    let h = g.H.LineHandler in
    let first : State (Lines g.row.H.Denot) g.row.S.Denot g.row.O.Denot = record { own = c.args.self.now; store = c.args.store.now; out = c.args.out.now } in
    read_whole h.handles h.flushes h.is_flushed h.stops first (record { own = c.drive.new.consumer; store = c.drive.new.store; out = c.drive.new.out }) (record { own = c.end.new.self; store = c.end.new.store; out = c.end.new.out }) _
    (g.R.Source.remaining c.args.reader.now) (g.R.Source.remaining c.drive.new.reader) tt (Err c.in-Err-end.fault) c.in-Ok.ensures.drives refl c.in-Err-end.ensures

pub returns-in-Err-clause-reads : goal.returns-in-Err-clause-reads
returns-in-Err-clause-reads g c =
    let h = g.H.LineHandler in
    let first : State (Lines g.row.H.Denot) g.row.S.Denot g.row.O.Denot = record { own = c.args.self.now; store = c.args.store.now; out = c.args.out.now } in
    read_stopped h.handles h.flushes h.is_flushed h.stops first (record { own = c.drive.new.consumer; store = c.drive.new.store; out = c.drive.new.out }) (g.R.Source.remaining c.args.reader.now) (g.R.Source.remaining c.drive.new.reader)
    c.in-Err.stop c.in-Err.ensures.drives
