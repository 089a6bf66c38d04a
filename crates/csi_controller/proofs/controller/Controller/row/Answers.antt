-- By the rows.
use Rattle.std.proofs.Common.{List, sym, ◌∙◌, ap, subst}
use Rattle.std.specs.Prelude.{find, ◌==◌}
use Rattle.std.proofs.lemmas.Result.{IfOk-weaker}
use Rattle.csi_controller.specs.declared.row.ControllerRow.{ControllerRow}
use Rattle.csi_controller.specs.Model.Core.{ControllerParts, Shows}
use Rattle.csi_controller.specs.Public.Plan.{controller_parts}
use Rattle.csi_controller.specs.Public.Views.{IsCopyOf}
use Rattle.csi_controller.proofs.Readers.{row-shown}
use Rattle.csi_controller.proofs.controller.Controller.row.Goals as goal

pub returns-clause-state : goal.returns-clause-state
returns-clause-state c = λ state shown.
    let kept = c.self.inside.rows in
    IfOk-weaker c.copied_row.result _ _
    (λ copy same. row-shown (controller_parts kept.table kept.session kept.rows.items) state c.args.id copy (subst (λ (k : ControllerParts). Shows k state) (sym c.self.view_is) shown)
    (subst (λ (l : List ControllerRow). IsCopyOf (find (λ (row : ControllerRow). row.id == c.args.id) l) copy) c.as_slice.ensures.value same))
    c.copied_row.ensures.copy

pub returns-clause-succeeds : goal.returns-clause-succeeds
returns-clause-succeeds c = λ none.
    c.copied_row.ensures.succeeds
    (ap (λ (l : List ControllerRow). find (λ (row : ControllerRow). row.id == c.args.id) l) c.as_slice.ensures.value
    ∙ ap (λ (parts : ControllerParts). find (λ (row : ControllerRow). row.id == c.args.id) parts.rows) c.self.view_is ∙ none)
