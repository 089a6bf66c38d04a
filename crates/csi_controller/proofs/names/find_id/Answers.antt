-- A binary search ends at the id, or at the gap for it.
use Rattle.std.proofs.Common.{◌∙◌, map, rules}
use Rattle.std.proofs.lemmas.List.Sorted.{answers_always}
use Rattle.csi_fence.proofs.FoundPlaces.{found-place}
use Rattle.csi_fence.proofs.PlacedRows.{searched}
use Rattle.csi_controller.specs.declared.row.ControllerRow.{ControllerRow}
use Rattle.csi_controller.specs.Public.OneRow.{row_shown}
use Rattle.csi_controller.specs.Public.Plan.{controller_plan}
use Rattle.csi_controller.proofs.names.find_id.Goals as goal

pub returns : goal.returns
returns c =
    let facts = c.binary_search_by_key.ensures in
    let by_key = facts.position (λ (row : ControllerRow). row.id) (answers_always _ _ _ (λ f a r h called. search rules)) in
    let ended = searched controller_plan.id row_shown c.args.rows.now c.number.result c.binary_search_by_key.result c.requires facts.bound by_key in
    c.ok.ensures.value
    ∙ found-place controller_plan.id (map row_shown c.args.rows.now) c.args.id c.binary_search_by_key.result c.requires (rw c.number.ensures.value at ended.found) (rw c.number.ensures.value at ended.absent)
