-- One more call is closed.
use Rattle.csi_orchestrator.proofs.Words.{refl, arith, rows_of, Catalog}
use Rattle.csi_orchestrator.proofs.NotedCalls.{turn-closed, closed-all, emptied-indexed, emptied-room}
use Rattle.csi_orchestrator.proofs.catalog.Catalog.close_all.Goals as goal

pub loop-turn-preserved : goal.loop-turn-preserved
loop-turn-preserved c =
    let long = c.len-turn-end.ensures.len in
    let below = c.loop-turn-test.true in
    turn-closed c.args.self.now c.loop-turn.self c.close_noted.new.self c.loop-turn.turn c.loop-turn.invariant (omega (arith, long, below)) c.close_noted.ensures.rows c.close_noted.ensures.calls c.close_noted.ensures.names

pub returns-clause-rows : goal.returns-clause-rows
returns-clause-rows c =
    let long = c.len-turn-end.ensures.len in
    let over = c.loop-turn-test.false in
    closed-all c.args.self.now c.loop-turn.self c.loop-turn.turn c.requires.noted c.loop-turn.invariant (omega (arith, long, over))

pub returns-clause-indexed : goal.returns-clause-indexed
returns-clause-indexed c =
    let then : Catalog = record { rows = c.loop-turn.self.rows; calls = c.clear.new.self } in
    let long = c.len-turn-end.ensures.len in
    let over = c.loop-turn-test.false in
    emptied-indexed (rows_of c.args.self.now) c.loop-turn.self then
    (closed-all c.args.self.now c.loop-turn.self c.loop-turn.turn c.requires.noted c.loop-turn.invariant (omega (arith, long, over)))
    c.loop-turn.invariant.names refl c.clear.ensures.empty
    (emptied-room c.args.self.now c.loop-turn.self then c.loop-turn.turn c.requires.noted c.loop-turn.invariant refl c.clear.ensures.capacity)
