use Rattle.csi_streams.specs.declared.frames.Frames.{Frames}
use Rattle.csi_streams.specs.Public.State.{State}
use Rattle.csi_streams.specs.Public.Framing.{inner}
use Rattle.csi_streams.proofs.Reaching.{begun}
use Rattle.csi_streams.proofs.FrameEnding.{rests_at_frames, read_whole, read_short, read_stopped}
use Rattle.csi_streams.proofs.frames.Frames.read.Goals as goal

pub drive-requires : goal.drive-requires
drive-requires g c =
    let h = g.H.FrameHandler in
    let first : State (Frames g.row.H.Denot) g.row.S.Denot g.row.O.Denot = record { own = c.args.self.now; store = c.args.store.now; out = c.args.out.now } in
    record {
      begun = begun h.handles h.flushes h.is_flushed first c.requires.begun.splitter c.requires.begun.count c.requires.begun.flushed;
      room = c.requires.room;
      asks = λ gone read now consumed rests. c.requires.asks gone read (inner now) consumed (rests_at_frames h.handles h.flushes h.is_flushed h.stops first read now rests);
    }

pub returns-in-Ok-end-clause-reads : goal.returns-in-Ok-end-clause-reads
returns-in-Ok-end-clause-reads g c =
    let h = g.H.FrameHandler in
    let first : State (Frames g.row.H.Denot) g.row.S.Denot g.row.O.Denot = record { own = c.args.self.now; store = c.args.store.now; out = c.args.out.now } in
    read_whole h.handles h.flushes h.is_flushed h.stops first (record { own = c.drive.new.consumer; store = c.drive.new.store; out = c.drive.new.out }) (g.R.Source.remaining c.args.reader.now) (g.R.Source.remaining c.drive.new.reader) tt
    c.in-Ok.ensures.drives c.in-Ok-end.ensures

pub returns-in-Err-end-clause-reads : goal.returns-in-Err-end-clause-reads
returns-in-Err-end-clause-reads g c =
    let h = g.H.FrameHandler in
    let first : State (Frames g.row.H.Denot) g.row.S.Denot g.row.O.Denot = record { own = c.args.self.now; store = c.args.store.now; out = c.args.out.now } in
    read_short h.handles h.flushes h.is_flushed h.stops first (record { own = c.drive.new.consumer; store = c.drive.new.store; out = c.drive.new.out }) (g.R.Source.remaining c.args.reader.now) (g.R.Source.remaining c.drive.new.reader) tt
    c.in-Err-end.fault c.in-Ok.ensures.drives c.in-Err-end.ensures

pub returns-in-Err-clause-reads : goal.returns-in-Err-clause-reads
returns-in-Err-clause-reads g c =
    let h = g.H.FrameHandler in
    let first : State (Frames g.row.H.Denot) g.row.S.Denot g.row.O.Denot = record { own = c.args.self.now; store = c.args.store.now; out = c.args.out.now } in
    read_stopped h.handles h.flushes h.is_flushed h.stops first (record { own = c.drive.new.consumer; store = c.drive.new.store; out = c.drive.new.out }) (g.R.Source.remaining c.args.reader.now) (g.R.Source.remaining c.drive.new.reader)
    c.in-Err.stop c.in-Err.ensures.drives
