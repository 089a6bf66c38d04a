-- By the rows.
use Rattle.std.proofs.Common.{◌≡◌, ℕ, List, map, sym, ◌∙◌, subst}
use Rattle.std.specs.Prelude.{find, option_map}
use Rattle.csi_types.specs.Model.Same.{same_text}
use Rattle.csi_controller.specs.Model.Core.{ControllerParts, Shows}
use Rattle.csi_controller.specs.Public.OneRow.{RowShown, row_shown}
use Rattle.csi_controller.specs.Public.Plan.{controller_parts}
use Rattle.csi_controller.proofs.Readers.{id-in, id-shown}
use Rattle.csi_controller.proofs.controller.Controller.id_of.Goals as goal

pub returns : goal.returns
returns c = λ state shown.
    let kept = c.self.inside.rows in
    let rows = map row_shown kept.rows.items in
    subst (λ (name : List ℕ). c.id_of_name.result ≡ option_map (λ (row : RowShown). row.volume.id) (find (λ (row : RowShown). same_text row.volume.name name) rows)) c.as_str.ensures.value
    (c.id_of_name.ensures rows c.self.invariant.fits.names_are)
    ∙ id-in kept.rows.items c.args.name.now
    ∙ id-shown (controller_parts kept.table kept.session kept.rows.items) state c.args.name.now (subst (λ (k : ControllerParts). Shows k state) (sym c.self.view_is) shown)
