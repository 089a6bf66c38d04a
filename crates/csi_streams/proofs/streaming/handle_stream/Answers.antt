use Rattle.std.proofs.Common.{◌∙◌, [], ap, sym, subst, arith}
use Rattle.csi_streams.specs.declared.giving.Writing.{Writing}
use Rattle.csi_streams.proofs.GivenBytes.{Stream, stream_ended, stream_stopped, writer_ended, writer_told, reader_told}
use Rattle.csi_streams.proofs.streaming.handle_stream.Goals as goal

pub read-requires : goal.read-requires
read-requires g c =
    let empty = ap (λ (a : Writing g.row.H.Denot). a.out.items) c.new-frames.ensures.handler ∙ c.new-out.ensures.items in
    record {
      begun = record { splitter = c.new-frames.ensures.splitter; count = c.new-frames.ensures.count; flushed = empty };
      room = omega arith;
      asks = λ gone read now consumed rests. tt;
    }

pub returns-in-Ok-clause-streams : goal.returns-in-Ok-clause-streams
returns-in-Ok-clause-streams g c =
    let h = g.H.Handler in
    let first : Stream g.row.H.Denot g.row.W.Denot = record { own = c.new-frames.result.handler; store = tt; out = c.args.writer.now } in
    let handled = subst (λ (a : Writing g.row.H.Denot). h.has_handled a.handler []) (sym c.new-frames.ensures.handler) c.requires.handled in
    let empty = ap (λ (a : Writing g.row.H.Denot). a.out.items) c.new-frames.ensures.handler ∙ c.new-out.ensures.items in
    rw c.count.ensures
    (stream_ended g.W.Write.contents h.has_handled h.gives first (record { own = c.read.new.self.handler; store = c.read.new.store; out = c.read.new.out }) c.read.new.self.count (g.R.Read.remaining c.args.reader.now.inner) (g.R.Read.remaining c.read.new.reader.inner) handled c.requires.gave empty tt
    c.in-Ok.ensures.reads)

pub returns-in-Ok-clause-writer : goal.returns-in-Ok-clause-writer
returns-in-Ok-clause-writer g c =
    let h = g.H.Handler in
    let first : Stream g.row.H.Denot g.row.W.Denot = record { own = c.new-frames.result.handler; store = tt; out = c.args.writer.now } in
    let handled = subst (λ (a : Writing g.row.H.Denot). h.has_handled a.handler []) (sym c.new-frames.ensures.handler) c.requires.handled in
    let empty = ap (λ (a : Writing g.row.H.Denot). a.out.items) c.new-frames.ensures.handler ∙ c.new-out.ensures.items in
    writer_ended g.W.Write.contents h.has_handled h.gives first (record { own = c.read.new.self.handler; store = c.read.new.store; out = c.read.new.out }) c.read.new.self.count (g.R.Read.remaining c.args.reader.now.inner) (g.R.Read.remaining c.read.new.reader.inner) handled c.requires.gave empty tt
    c.in-Ok.ensures.reads

pub returns-clause-streams : goal.returns-clause-streams
returns-clause-streams g c =
    let h = g.H.Handler in
    let first : Stream g.row.H.Denot g.row.W.Denot = record { own = c.new-frames.result.handler; store = tt; out = c.args.writer.now } in
    let handled = subst (λ (a : Writing g.row.H.Denot). h.has_handled a.handler []) (sym c.new-frames.ensures.handler) c.requires.handled in
    let empty = ap (λ (a : Writing g.row.H.Denot). a.out.items) c.new-frames.ensures.handler ∙ c.new-out.ensures.items in
    rw c.fault_of.ensures
    (stream_stopped g.W.Write.contents h.has_handled h.gives first (record { own = c.read.new.self.handler; store = c.read.new.store; out = c.read.new.out }) c.read.new.self.count (g.R.Read.remaining c.args.reader.now.inner) (g.R.Read.remaining c.read.new.reader.inner) handled c.requires.gave empty c.in-Err.stop
    c.in-Err.ensures.reads)

pub returns-clause-reader : goal.returns-clause-reader
returns-clause-reader g c = rw c.fault_of.ensures (reader_told c.args.reader.now.faults c.read.new.reader.faults c.in-Err.stop c.in-Err.ensures.reader)

pub returns-clause-writer : goal.returns-clause-writer
returns-clause-writer g c =
    let h = g.H.Handler in
    let first : Stream g.row.H.Denot g.row.W.Denot = record { own = c.new-frames.result.handler; store = tt; out = c.args.writer.now } in
    let handled = subst (λ (a : Writing g.row.H.Denot). h.has_handled a.handler []) (sym c.new-frames.ensures.handler) c.requires.handled in
    let empty = ap (λ (a : Writing g.row.H.Denot). a.out.items) c.new-frames.ensures.handler ∙ c.new-out.ensures.items in
    rw c.fault_of.ensures
    (writer_told g.W.Write.contents h.has_handled h.gives first (record { own = c.read.new.self.handler; store = c.read.new.store; out = c.read.new.out }) c.read.new.self.count (g.R.Read.remaining c.args.reader.now.inner) (g.R.Read.remaining c.read.new.reader.inner) handled c.requires.gave empty c.in-Err.stop
    c.in-Err.ensures.reads)
