-- One target more is counted, or isn't.
use Rattle.csi_orchestrator.proofs.Words.{not, rules, ◌&&◌, same_text, TargetEntry, is_no}
use Rattle.csi_orchestrator.proofs.EntriesShown.{counted-more, counted-same}
use Rattle.csi_orchestrator.proofs.marks.others_of.Goals as goal
use Rattle.csi_orchestrator.proofs.marks.others_of.Goals.{then-ne+then-not-is_no, else-ne, else-ne-via-then-ne+else-not-is_no, else-ne-via-else-ne}

pub loop-target_entry-preserved : goal.loop-target_entry-preserved
loop-target_entry-preserved c =
    let is_at_another_target = λ (target_entry : TargetEntry). not (same_text target_entry.target c.args.target.now) && not (is_no target_entry.published) in
    let target_entries = c.args.target_entries.now in
    let i = c.loop-target_entry.target_entry-index in
    let target_entry = c.target_entry-item.result in
    elim c.if-ne.branch [
      | then-ne+then-not-is_no w ↦ counted-more is_at_another_target target_entries i target_entry c.loop-target_entry.count c.if-ne.count c.loop-target_entry-test.true c.target_entry-item.is c.loop-target_entry.invariant (search rules) w.count-is
      | else-ne w ↦ counted-same is_at_another_target target_entries i target_entry c.loop-target_entry.count c.if-ne.count c.loop-target_entry-test.true c.target_entry-item.is c.loop-target_entry.invariant
          (elim w.else-ne.branch [ else-ne-via-then-ne+else-not-is_no v ↦ search rules | else-ne-via-else-ne v ↦ search rules ]) w.count-is
    ]
