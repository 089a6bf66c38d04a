use Rattle.std.proofs.Common.{◌∙◌, [], sym, subst}
use Rattle.csi_streams.specs.declared.giving.Appending.{Appending}
use Rattle.csi_streams.proofs.GivenBytes.{Slice, slice_whole, slice_stopped}
use Rattle.csi_streams.proofs.slices.handle_slice.Goals as goal

pub returns-in-Ok : goal.returns-in-Ok
returns-in-Ok g c = λ frames rest of.
    let h = g.H.Handler in
    let first : Slice g.row.H.Denot = record { own = c.new-frames.result.handler; store = tt; out = c.args.out.now } in
    let handled = subst (λ (a : Appending g.row.H.Denot). h.has_handled a.handler []) (sym c.new-frames.ensures.handler) c.requires.handled in
    let whole = slice_whole h.has_handled h.gives first (record { own = c.read_slice.new.self.handler; store = c.read_slice.new.store; out = c.read_slice.new.out }) c.read_slice.new.self.count frames rest tt handled c.requires.gave
    (c.in-Ok.ensures.reads (record { splitter = c.new-frames.ensures.splitter; count = c.new-frames.ensures.count; flushed = tt }) frames rest of) in
    (whole.0, c.count.ensures ∙ whole.1, whole.2)

pub returns : goal.returns
returns g c = λ frames rest of.
    let h = g.H.Handler in
    let first : Slice g.row.H.Denot = record { own = c.new-frames.result.handler; store = tt; out = c.args.out.now } in
    let handled = subst (λ (a : Appending g.row.H.Denot). h.has_handled a.handler []) (sym c.new-frames.ensures.handler) c.requires.handled in
    rw c.fault_of.ensures
    (slice_stopped h.has_handled h.gives first (record { own = c.read_slice.new.self.handler; store = c.read_slice.new.store; out = c.read_slice.new.out }) c.read_slice.new.self.count frames rest c.in-Err.fault handled c.requires.gave
    (c.in-Err.ensures.reads (record { splitter = c.new-frames.ensures.splitter; count = c.new-frames.ensures.count; flushed = tt }) frames rest of))
