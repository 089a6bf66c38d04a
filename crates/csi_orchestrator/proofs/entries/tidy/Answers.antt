use Rattle.csi_orchestrator.proofs.Words.{◌≡◌, ◌∙◌, map, filter, ap, sym, rules, NodeEntry, node_entry_shown}
use Rattle.csi_orchestrator.proofs.Words.{is_node_kept}
use Rattle.csi_orchestrator.proofs.Lemmas.{filter_same, filter-of_map}
use Rattle.csi_orchestrator.proofs.entries.tidy.Goals as goal

pub returns : goal.returns
returns c =
    let entries = c.keep_targets.new.entries.items in
    let kept : c.retain.new.self.items ≡ filter (λ (entry : NodeEntry). is_node_kept (node_entry_shown entry)) entries =
    filter_same _ (λ (entry : NodeEntry). is_node_kept (node_entry_shown entry)) _ (λ x b f called. search rules) _ _ c.retain.ensures.filtered in
    ap (map node_entry_shown) kept ∙ sym (filter-of_map is_node_kept node_entry_shown entries) ∙ ap (filter is_node_kept) c.keep_targets.ensures
