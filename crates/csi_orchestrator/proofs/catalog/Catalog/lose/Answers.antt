-- One row more.
use Rattle.std.proofs.Common.{arith}
use Rattle.csi_orchestrator.proofs.RowsForgotten.{lost-more, lost-indexed, lost-all}
use Rattle.csi_orchestrator.proofs.RowsUnderNames.{rows-within, rows-below}
use Rattle.csi_orchestrator.proofs.catalog.Catalog.lose.Goals as goal

pub loop-index-preserved : goal.loop-index-preserved
loop-index-preserved c =
    let long = c.len-index-end.ensures.len in
    let below = c.loop-index-test.true in
    lost-more c.args.node.now c.args.self.now c.loop-index.self c.lose_row.new.self c.loop-index.index c.loop-index.invariant (rows-within c.args.self.now c.loop-index.index (omega (arith, long, below))) c.lose_row.ensures.rows
    c.lose_row.ensures.calls c.lose_row.ensures.names

pub returns-clause-indexed : goal.returns-clause-indexed
returns-clause-indexed c =
    let long = c.len-index-end.ensures.len in
    let over = c.loop-index-test.false in
    lost-indexed c.args.node.now c.args.self.now c.loop-index.self c.loop-index.index c.requires.indexed c.loop-index.invariant (rows-below c.args.self.now c.loop-index.index (omega (arith, long, over)))

pub returns-clause-rows : goal.returns-clause-rows
returns-clause-rows c =
    let long = c.len-index-end.ensures.len in
    let over = c.loop-index-test.false in
    lost-all c.args.node.now c.args.self.now c.loop-index.self c.loop-index.index c.loop-index.invariant (rows-below c.args.self.now c.loop-index.index (omega (arith, long, over)))
