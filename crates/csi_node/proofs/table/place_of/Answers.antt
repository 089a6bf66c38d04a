-- A search by rising ids finds the id, or the gap for it.
use Rattle.std.proofs.Common.{◌∙◌, rules}
use Rattle.std.proofs.lemmas.List.Sorted.{answers_always}
use Rattle.csi_fence.proofs.FoundPlaces.{found-place}
use Rattle.csi_fence.proofs.PlacedRows.{searched}
use Rattle.csi_node.specs.declared.row.NodeRow.{NodeRow}
use Rattle.csi_node.specs.Model.OneRow.{node_row_shown}
use Rattle.csi_node.specs.Model.Record.{parts}
use Rattle.csi_node.specs.Public.Plan.{node_plan}
use Rattle.csi_node.proofs.table.place_of.Goals as goal

pub returns : goal.returns
returns c =
    let facts = c.binary_search_by_key.ensures in
    let by_key = facts.position (λ (row : NodeRow). row.id) (answers_always _ _ _ (λ f a r g called. search rules)) in
    let at = rw c.number.ensures.value at (searched node_plan.id node_row_shown c.args.rows.now c.number.result c.binary_search_by_key.result c.requires.rising facts.bound by_key) in
    c.ok.ensures.value ∙ found-place node_plan.id (parts c.args.rows.now) c.args.id c.binary_search_by_key.result c.requires.rising at.found at.absent
