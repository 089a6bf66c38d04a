-- One entry more is tidied.
use Rattle.csi_orchestrator.proofs.Words.{◌<◌, ◌∙◌, List, length, get_or, subst, ap, sym, rules, arith, NodeEntry}
use Rattle.csi_orchestrator.proofs.Words.{TargetEntry, NodeEntryShown, node_entry_shown, is_target_kept}
use Rattle.csi_orchestrator.proofs.Words.{with_kept_targets}
use Rattle.csi_orchestrator.proofs.Lemmas.{filter_same, map_over_more-shown}
use Rattle.csi_orchestrator.proofs.entries.keep_targets.Goals as goal

pub loop-entry-preserved : goal.loop-entry-preserved
loop-entry-preserved c =
    let old = c.args.entries.now.items in
    let now = c.loop-entry.entry-items in
    let i = c.loop-entry.entry-index in
    let inside : i < length old = subst (λ (entries : List NodeEntry). i < length entries) c.deref_mut-entry-items.ensures.value c.loop-entry-test.true in
    let within : i < length now = omega arith in
    let kept = filter_same _ is_target_kept _ (λ x b f called. search rules) _ _ c.retain.ensures.filtered in
    map_over_more-shown node_entry_shown with_kept_targets old now i c.entry-item.result _ inside c.loop-entry.invariant within c.entry-item.is
    (ap (λ (target_entries : List TargetEntry). let entry : NodeEntryShown = record (node_entry_shown (get_or now i c.entry-item.result)) { target_entries = target_entries } in entry) kept ∙ ap (λ (entry : NodeEntry). with_kept_targets (node_entry_shown entry)) (sym c.entry-item.is))
