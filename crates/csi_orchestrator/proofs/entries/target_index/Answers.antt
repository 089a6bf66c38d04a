-- The first one of it, or none.
use Rattle.csi_orchestrator.proofs.Words.{arith, same_text, TargetEntry}
use Rattle.csi_orchestrator.proofs.EntriesShown.{placed-here, placed-nowhere}
use Rattle.csi_orchestrator.proofs.entries.target_index.Goals as goal

pub returns-then-eq : goal.returns-then-eq
returns-then-eq c =
    placed-here (λ (target_entry : TargetEntry). same_text target_entry.target c.args.target.now) c.args.target_entries.now c.loop-index.index c.index-target_entries-index.result c.loop-index-test.true c.index-target_entries-index.is c.loop-index.invariant (cc)

pub returns : goal.returns
returns c =
    let over = c.loop-index-test.false in
    placed-nowhere (λ (target_entry : TargetEntry). same_text target_entry.target c.args.target.now) c.args.target_entries.now c.loop-index.index (omega (arith, over)) c.loop-index.invariant
