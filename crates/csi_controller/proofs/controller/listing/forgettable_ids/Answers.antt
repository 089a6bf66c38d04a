-- A row of a deleted volume that is met is among those that were said to be none.
use Rattle.std.proofs.Common.{◌≡◌, ◌∙◌, Bool, false, List, not, sym, ap, get_or, arith}
use Rattle.std.proofs.lemmas.Bool.{true≢false}
use Rattle.csi_types.proofs.Each.{each-place}
use Rattle.csi_types.proofs.Members.{all_of, none_kept}
use Rattle.csi_controller.specs.declared.row.ControllerRow.{ControllerRow}
use Rattle.csi_controller.proofs.controller.listing.forgettable_ids.Goals as goal

pub returns-in_err-push-clause-none : goal.returns-in_err-push-clause-none
returns-in_err-push-clause-none c = λ none.
    let rows : List ControllerRow = c.args.rows.now in
    let is_empty : ControllerRow → Bool = λ row. not row.live in
    let row : ControllerRow = c.row-item.result in
    let own : is_empty (get_or rows c.loop-row.row-index row) ≡ false =
    each-place (λ (r : ControllerRow). is_empty r ≡ false) rows c.loop-row.row-index row (all_of (λ (r : ControllerRow). is_empty r ≡ false) rows (λ r among. none_kept is_empty rows r none among)) (omega arith) in
    absurd (true≢false (sym (ap not c.if-not-row.true) ∙ ap is_empty c.row-item.is ∙ own))
