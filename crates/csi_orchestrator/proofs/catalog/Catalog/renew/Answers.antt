-- One row more.
use Rattle.std.proofs.Common.{arith}
use Rattle.csi_orchestrator.proofs.RowsUnderNames.{rows-within, rows-below}
use Rattle.csi_orchestrator.proofs.NotedCalls.{renewed-step, renewed-noted}
use Rattle.csi_orchestrator.proofs.catalog.Catalog.renew.Goals as goal

pub loop-index-preserved : goal.loop-index-preserved
loop-index-preserved c =
    let long = c.len-index-end.ensures.len in
    let below = c.loop-index-test.true in
    let inside = rows-within c.args.self.now c.loop-index.index (omega (arith, long, below)) in (
      renewed-step c.args.self.now c.loop-index.self c.note_open.new.self c.loop-index.index c.len-index-end.result c.requires c.loop-index.invariant.0 c.len-index-end.ensures.len c.loop-index-test.true c.note_open.ensures.rows c.note_open.ensures.noted,
      omega (arith, inside),
    )

pub returns-clause-noted : goal.returns-clause-noted
returns-clause-noted c =
    let long = c.len-index-end.ensures.len in
    let over = c.loop-index-test.false in
    renewed-noted c.args.self.now c.loop-index.self c.loop-index.index c.requires c.loop-index.invariant.0 (rows-below c.args.self.now c.loop-index.index (omega (arith, long, over)))

pub returns-clause-few : goal.returns-clause-few
returns-clause-few c =
    let count = c.loop-index.invariant.0.count in
    let within = c.loop-index.invariant.1 in
    omega (arith, count, within)
