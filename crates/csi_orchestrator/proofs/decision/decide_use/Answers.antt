-- By the entry of the node.
use Rattle.csi_orchestrator.proofs.Words.{◌≡◌, List, map, not, Some, sym, ◌∙◌, ap, rules, count_by, ◌&&◌, same_text}
use Rattle.csi_orchestrator.proofs.Words.{NodeEntry, NodeEntryShown, is_no, others_attached, decided_at, row_shown}
use Rattle.csi_orchestrator.proofs.Words.{node_entry_shown}
use Rattle.csi_orchestrator.proofs.DecisionsTold.{use-decided}
use Rattle.csi_orchestrator.proofs.decision.decide_use.Goals as goal

pub returns-in-Some : goal.returns-in-Some
returns-in-Some c =
    let same : c.deref-3.result.now ≡ c.args.row.now.node_entries.items = search rules in
    let counted : c.others_attached-others.result ≡ others_attached c.args.usage.now.node (row_shown c.args.row.now) =
    c.others_attached-others.ensures
    ∙ ap (λ (es : List NodeEntry). count_by (λ (entry : NodeEntryShown). not (same_text entry.node c.args.usage.now.node) && not (is_no entry.attached)) (map node_entry_shown es)) same in
    c.decide_at.ensures
    ∙ ap (λ n. decided_at c.args.last c.args.usage.now n (row_shown c.args.row.now).id (Some (node_entry_shown c.in-Some.entry.now))) counted
    ∙ use-decided c.args.nodes.now c.args.last c.args.usage.now (row_shown c.args.row.now) (Some (node_entry_shown c.in-Some.entry.now)) (search rules) (search rules) (search rules) (search rules) (search rules) (search rules)
    (sym c.in-Some.ensures)
