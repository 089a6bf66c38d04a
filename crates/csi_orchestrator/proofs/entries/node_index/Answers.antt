-- The first one of it, or none.
use Rattle.csi_orchestrator.proofs.Words.{arith, same_text, NodeEntry}
use Rattle.csi_orchestrator.proofs.EntriesShown.{placed-here, placed-nowhere}
use Rattle.csi_orchestrator.proofs.entries.node_index.Goals as goal

pub returns-then-eq : goal.returns-then-eq
returns-then-eq c =
    placed-here (λ (entry : NodeEntry). same_text entry.node c.args.node.now) c.args.entries.now c.loop-index.index c.index-entries-index.result c.loop-index-test.true c.index-entries-index.is c.loop-index.invariant (cc)

pub returns : goal.returns
returns c =
    let over = c.loop-index-test.false in
    placed-nowhere (λ (entry : NodeEntry). same_text entry.node c.args.node.now) c.args.entries.now c.loop-index.index (omega (arith, over)) c.loop-index.invariant
