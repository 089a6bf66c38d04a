-- By rising ids.
use Rattle.std.proofs.Common.{◌∙◌, rules}
use Rattle.std.proofs.lemmas.List.Sorted.{answers_always}
use Rattle.csi_controller.specs.declared.row.ControllerRow.{ControllerRow}
use Rattle.csi_recovery.proofs.Found.{search-found}
use Rattle.csi_recovery.proofs.finding.place_of_volume.Goals as goal

pub returns : goal.returns
returns c =
    let facts = c.binary_search_by_key.ensures in
    let by_key = facts.position (λ (row : ControllerRow). row.id) (answers_always _ _ _ (λ f a r g called. search rules)) in
    let at = rw c.number.ensures.value at (search-found (λ (row : ControllerRow). row.id) c.args.rows.now c.number.result c.binary_search_by_key.result c.requires facts.bound by_key) in
    c.ok.ensures.value ∙ at
