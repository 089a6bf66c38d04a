use Rattle.std.proofs.Common.{◌++◌, ℕ, List, sym, subst, refl}
use Rattle.csi_streams.specs.Public.Lining.{ReachesLines}
use Rattle.csi_streams.proofs.LineReaching.{fed_more}
use Rattle.csi_streams.proofs.lines.LinesConsumer.feed.Goals as goal

pub returns-in-Ok : goal.returns-in-Ok
returns-in-Ok g c = λ first bytes store out rests few.
    let old = c.args.self.now in
    subst (λ (buffer : List ℕ). ReachesLines g.H.LineHandler.handles g.H.LineHandler.flushes first (bytes ++ c.args.piece.now) (record { own = record { buffer = buffer; count = old.count; handler = old.handler }; store = store; out = out })) (sym c.in-Ok.ensures.ok)
    (fed_more g.H.LineHandler.handles g.H.LineHandler.flushes first bytes c.args.piece.now old.buffer old.count old.handler store out rests.reached few)

pub returns-in-Err : goal.returns-in-Err
returns-in-Err g c = λ first bytes store out rests few. record {
  fed = bytes;
  before = record { own = c.args.self.now; store = store; out = out };
  reached = rests.reached;
  counted = refl;
  behind = (c.args.piece.now, refl, refl, rests.flushed);
}
