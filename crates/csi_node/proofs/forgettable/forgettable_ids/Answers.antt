-- A row of a volume that isn't staged is met where there was said to be none.
use Rattle.std.proofs.Common.{◌≡◌, ◌∙◌, Bool, false, List, is_none, not, ap, get_or, sym, arith}
use Rattle.std.proofs.lemmas.Bool.{true≢false}
use Rattle.csi_types.proofs.Each.{each-place}
use Rattle.csi_types.proofs.Members.{all_of, in-map, none_kept}
use Rattle.csi_node.specs.declared.row.NodeRow.{NodeRow}
use Rattle.csi_node.specs.Model.OneRow.{NodeRowShown, node_row_shown}
use Rattle.csi_node.specs.Model.Record.{parts}
use Rattle.csi_node.proofs.ChangedRows.{staged-tells}
use Rattle.csi_node.proofs.forgettable.forgettable_ids.Goals as goal

pub returns-in_err-push-clause-none : goal.returns-in_err-push-clause-none
returns-in_err-push-clause-none c = λ none.
    let rows : List NodeRow = c.args.rows.now in
    let is_empty : NodeRowShown → Bool = λ row. is_none row.staged in
    let row : NodeRow = c.row-item.result in
    let own : is_empty (node_row_shown (get_or rows c.loop-row.row-index row)) ≡ false =
    each-place (λ (r : NodeRow). is_empty (node_row_shown r) ≡ false) rows c.loop-row.row-index row
    (all_of (λ (r : NodeRow). is_empty (node_row_shown r) ≡ false) rows (λ r among. none_kept is_empty (parts rows) (node_row_shown r) none (in-map node_row_shown rows r among))) (omega arith) in
    absurd (true≢false (sym (ap not (ap (λ (r : NodeRow). is_empty (node_row_shown r)) c.row-item.is ∙ own)) ∙ staged-tells row.staged ∙ (c.is_none.ensures ∙ ap not c.if-is_none.true)))
