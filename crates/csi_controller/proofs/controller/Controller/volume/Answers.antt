-- By the rows.
use Rattle.std.proofs.Common.{ℕ, List, map, ◌∙◌, ap, sym, subst}
use Rattle.std.specs.Prelude.{find}
use Rattle.csi_types.specs.Model.Same.{same_text}
use Rattle.csi_controller.specs.declared.row.ControllerRow.{ControllerRow}
use Rattle.csi_controller.specs.Public.Names.{by_name}
use Rattle.csi_controller.specs.Public.OneRow.{row_shown}
use Rattle.csi_controller.specs.Public.Plan.{controller_parts}
use Rattle.csi_controller.specs.Private.OneRow.{row_if_live}
use Rattle.csi_controller.specs.Model.Core.{ControllerParts, Shows}
use Rattle.csi_controller.proofs.Readers.{volume-shown}
use Rattle.csi_controller.proofs.controller.Controller.volume.Goals as goal

pub volume-requires : goal.volume-requires
volume-requires c =
    let kept = c.self.inside.rows in
    c.self.invariant.fits.names_are ∙ sym (ap (λ (l : List ControllerRow). map by_name (map row_shown l)) c.as_slice-rows.ensures.value)

pub returns : goal.returns
returns c = λ state shown.
    let kept = c.self.inside.rows in
    c.volume.ensures
    ∙ ap (λ (l : List ControllerRow). row_if_live (find (λ (row : ControllerRow). same_text row.name c.as_str.result.now) l)) c.as_slice-rows.ensures.value
    ∙ ap (λ (name : List ℕ). row_if_live (find (λ (row : ControllerRow). same_text row.name name) kept.rows.items)) c.as_str.ensures.value
    ∙ volume-shown (controller_parts kept.table kept.session kept.rows.items) state c.args.name.now (subst (λ (k : ControllerParts). Shows k state) (sym c.self.view_is) shown)
