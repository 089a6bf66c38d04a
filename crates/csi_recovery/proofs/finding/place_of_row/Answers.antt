-- By rising ids.
use Rattle.std.proofs.Common.{◌∙◌, rules}
use Rattle.std.proofs.lemmas.List.Sorted.{answers_always}
use Rattle.csi_node.specs.declared.row.NodeRow.{NodeRow}
use Rattle.csi_recovery.proofs.Found.{search-found}
use Rattle.csi_recovery.proofs.finding.place_of_row.Goals as goal

pub returns : goal.returns
returns c =
    let facts = c.binary_search_by_key.ensures in
    let by_key = facts.position (λ (row : NodeRow). row.id) (answers_always _ _ _ (λ f a r g called. search rules)) in
    let at = rw c.number.ensures.value at (search-found (λ (row : NodeRow). row.id) c.args.rows.now c.number.result c.binary_search_by_key.result c.requires facts.bound by_key) in
    c.ok.ensures.value ∙ at
