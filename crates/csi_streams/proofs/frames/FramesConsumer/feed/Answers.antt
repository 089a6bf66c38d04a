use Rattle.std.proofs.Common.{◌++◌, sym, subst, refl, arith}
use Rattle.csi_frames.specs.Public.Splitting.{Splitting}
use Rattle.csi_streams.specs.Public.Framing.{Reaches}
use Rattle.csi_streams.proofs.Reaching.{fed_more}
use Rattle.csi_streams.proofs.frames.FramesConsumer.feed.Goals as goal

pub returns-in-Ok : goal.returns-in-Ok
returns-in-Ok g c = λ first bytes store out rests few.
    let old = c.args.self.now in
    subst (λ (s : Splitting). Reaches g.H.FrameHandler.handles g.H.FrameHandler.flushes first (bytes ++ c.args.piece.now) (record { own = record { splitter = s; count = old.count; handler = old.handler }; store = store; out = out })) (sym c.in-Ok.ensures.ok)
    (fed_more g.H.FrameHandler.handles g.H.FrameHandler.flushes first bytes c.args.piece.now old.splitter old.count old.handler store out rests.reached (λ i. omega (arith, c.type_inv.piece i)) few)

pub returns-in-Err : goal.returns-in-Err
returns-in-Err g c = λ first bytes store out rests few. record {
  fed = bytes;
  before = record { own = c.args.self.now; store = store; out = out };
  reached = rests.reached;
  counted = refl;
  behind = (c.args.piece.now, refl, refl, rests.flushed);
}
