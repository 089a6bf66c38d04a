use Rattle.csi_streams.proofs.LineReaching.{line-less, handled_more, rested, stopped}
use Rattle.csi_streams.proofs.lines.LinesConsumer.next.Goals as goal

pub returns-in-Ok-true-clause-next : goal.returns-in-Ok-true-clause-next
returns-in-Ok-true-clause-next g c = λ first bytes reached.
    let next = rw c.in-Ok-true.field-0-test at c.in-Ok-true.ensures in
    handled_more g.H.LineHandler.handles g.H.LineHandler.flushes first bytes c.args.self.now.buffer c.handle_next.new.buffer next.0 c.args.self.now.count c.saturating_add-number.result
    (record { own = c.args.self.now.handler; store = c.args.store.now; out = c.args.out.now }) (record { own = c.handle_next.new.handler; store = c.handle_next.new.store; out = c.handle_next.new.out })
    reached next.1 next.2 c.saturating_add-number.ensures

pub returns-in-Ok-true-clause-less : goal.returns-in-Ok-true-clause-less
returns-in-Ok-true-clause-less g c = λ yes.
    let next = rw c.in-Ok-true.field-0-test at c.in-Ok-true.ensures in
    line-less c.args.self.now.buffer next.0 c.handle_next.new.buffer next.1

pub returns-in-Ok-false-clause-next : goal.returns-in-Ok-false-clause-next
returns-in-Ok-false-clause-next g c = λ first bytes reached.
    let next = rw c.in-Ok-false.field-0-test at c.in-Ok-false.ensures in
    rested g.H.LineHandler.handles g.H.LineHandler.flushes first bytes g.H.LineHandler.is_flushed c.args.self.now.buffer c.handle_next.new.buffer c.args.self.now.count
    (record { own = c.args.self.now.handler; store = c.args.store.now; out = c.args.out.now }) (record { own = c.handle_next.new.handler; store = c.handle_next.new.store; out = c.handle_next.new.out })
    reached next.0 next.1 next.2 next.3 next.4

pub returns-in-Err-clause-next : goal.returns-in-Err-clause-next
returns-in-Err-clause-next g c = λ first bytes reached.
    stopped g.H.LineHandler.handles g.H.LineHandler.flushes first bytes g.H.LineHandler.is_flushed g.H.LineHandler.stops c.saturating_add-number.result c.args.self.now.buffer c.handle_next.new.buffer c.args.self.now.count
    (record { own = c.args.self.now.handler; store = c.args.store.now; out = c.args.out.now }) (record { own = c.handle_next.new.handler; store = c.handle_next.new.store; out = c.handle_next.new.out })
    c.in-Err.fault reached c.saturating_add-number.ensures c.in-Err.ensures
