-- Others are there where some are counted.
use Rattle.csi_orchestrator.proofs.Words.{◌≡◌, not, ◌∙◌, ap, rules, count_by, nat_lt, ◌&&◌, same_text, TargetEntry}
use Rattle.csi_orchestrator.proofs.Words.{node_entry_shown, others_in, Some, is_no}
use Rattle.csi_orchestrator.proofs.Lemmas.{any-counted}
use Rattle.csi_orchestrator.proofs.marks.marks_in.Goals as goal

pub returns-in-Some : goal.returns-in-Some
returns-in-Some c =
    let is_at_another_target = λ (target_entry : TargetEntry). not (same_text target_entry.target c.args.target.now) && not (is_no target_entry.published) in
    let others : nat_lt 0 c.others_of.result ≡ others_in c.args.target.now (Some (node_entry_shown c.in-Some.entry.now)) =
    ap (nat_lt 0) (c.others_of.ensures ∙ ap (count_by is_at_another_target) c.deref.ensures.value) ∙ any-counted is_at_another_target c.in-Some.entry.now.target_entries.items in
    search rules
