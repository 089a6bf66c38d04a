-- One entry more.
use Rattle.csi_orchestrator.proofs.Words.{◌<◌, ◌∙◌, List, length, ap, sym, subst, arith, NodeEntry, entry_at_loss}
use Rattle.csi_orchestrator.proofs.Words.{node_entry_shown}
use Rattle.csi_orchestrator.proofs.Lemmas.{map_over_more-shown}
use Rattle.csi_orchestrator.proofs.beginning.lose_entries.Goals as goal

pub loop-entry-preserved : goal.loop-entry-preserved
loop-entry-preserved c =
    let old = c.args.entries.now.items in
    let now = c.loop-entry.entry-items in
    let i = c.loop-entry.entry-index in
    let inside : i < length old = subst (λ (entries : List NodeEntry). i < length entries) c.deref_mut-entry-items.ensures.value c.loop-entry-test.true in
    let within : i < length now = omega arith in
    map_over_more-shown node_entry_shown (entry_at_loss c.args.node.now) old now i c.entry-item.result c.lose_entry.new.entry inside c.loop-entry.invariant within c.entry-item.is
    (c.lose_entry.ensures ∙ ap (λ (entry : NodeEntry). entry_at_loss c.args.node.now (node_entry_shown entry)) (sym c.entry-item.is))
