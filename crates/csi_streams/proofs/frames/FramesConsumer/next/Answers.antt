use Rattle.std.proofs.Common.{◌∙◌, sym, refl, None}
use Rattle.csi_streams.specs.declared.frames.FramesFault.TheVariants as faults
use Rattle.csi_streams.proofs.Reaching.{handled_more, rested, stopped, kept-less, waits-empty}
use Rattle.csi_streams.proofs.frames.FramesConsumer.next.Goals as goal

pub returns-in-Ok-true-clause-next : goal.returns-in-Ok-true-clause-next
returns-in-Ok-true-clause-next g c = λ first bytes reached.
    let next = rw c.in-Ok-true.field-0-test at c.in-Ok-true.ensures in
    handled_more g.H.FrameHandler.handles g.H.FrameHandler.flushes first bytes c.args.self.now.splitter c.handle_next.new.splitter c.args.self.now.count c.saturating_add-self.result
    (record { own = c.args.self.now.handler; store = c.args.store.now; out = c.args.out.now }) (record { own = c.handle_next.new.handler; store = c.handle_next.new.store; out = c.handle_next.new.out })
    next.0 reached next.1 next.2 next.3 c.saturating_add-self.ensures

pub returns-in-Ok-true-clause-less : goal.returns-in-Ok-true-clause-less
returns-in-Ok-true-clause-less g c = λ yes.
    let next = rw c.in-Ok-true.field-0-test at c.in-Ok-true.ensures in
    rw next.2 (kept-less c.args.self.now.splitter next.0 next.1)

pub returns-in-Ok-false-clause-next : goal.returns-in-Ok-false-clause-next
returns-in-Ok-false-clause-next g c = λ first bytes reached.
    let next = rw c.in-Ok-false.field-0-test at c.in-Ok-false.ensures in
    rested g.H.FrameHandler.handles g.H.FrameHandler.flushes first bytes g.H.FrameHandler.is_flushed c.args.self.now.splitter c.handle_next.new.splitter c.args.self.now.count
    (record { own = c.args.self.now.handler; store = c.args.store.now; out = c.args.out.now }) (record { own = c.handle_next.new.handler; store = c.handle_next.new.store; out = c.handle_next.new.out })
    reached next.0 next.1 next.2 next.3

pub returns-in-Err-handle_next-clause-next : goal.returns-in-Err-handle_next-clause-next
returns-in-Err-handle_next-clause-next g c = λ first bytes reached.
    stopped g.H.FrameHandler.handles g.H.FrameHandler.flushes first bytes g.H.FrameHandler.is_flushed g.H.FrameHandler.stops c.args.self.now.splitter c.handle_next.new.splitter c.args.self.now.count
    (record { own = c.args.self.now.handler; store = c.args.store.now; out = c.args.out.now }) (record { own = c.handle_next.new.handler; store = c.handle_next.new.store; out = c.handle_next.new.out })
    c.in-Err-handle_next.fault reached c.in-Err-handle_next.ensures

pub returns-in-Ok-clause-next : goal.returns-in-Ok-clause-next
returns-in-Ok-clause-next g c = λ first bytes reached.
    rested g.H.FrameHandler.handles g.H.FrameHandler.flushes first bytes g.H.FrameHandler.is_flushed c.args.self.now.splitter c.args.self.now.splitter c.args.self.now.count
    (record { own = c.args.self.now.handler; store = c.args.store.now; out = c.args.out.now }) (record { own = c.flush.new.self; store = c.flush.new.store; out = c.flush.new.out })
    reached (waits-empty c.args.self.now.splitter.fault c.args.self.now.splitter.kept reached.no_fault (sym c.if-kept-eq0.true ∙ c.kept.ensures)) refl c.in-Ok.ensures.ok c.in-Ok.ensures.flushed

pub returns-in-Err-clause-next : goal.returns-in-Err-clause-next
returns-in-Err-clause-next g c = λ first bytes reached.
    stopped g.H.FrameHandler.handles g.H.FrameHandler.flushes first bytes g.H.FrameHandler.is_flushed g.H.FrameHandler.stops c.args.self.now.splitter c.args.self.now.splitter c.args.self.now.count
    (record { own = c.args.self.now.handler; store = c.args.store.now; out = c.args.out.now }) (record { own = c.flush.new.self; store = c.flush.new.store; out = c.flush.new.out })
    (faults.Handler c.in-Err.fault) reached (None, tt, c.in-Err.ensures.err)
