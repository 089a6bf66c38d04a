-- By the row of the id.
use Rattle.std.proofs.Common.{◌∙◌, Bool, ap, map, sym}
use Rattle.std.specs.Prelude.{◌==◌, ◌||◌}
use Rattle.std.proofs.Math.Bool.{not-not}
use Rattle.csi_types.proofs.Searches.{find-no_place}
use Rattle.csi_controller.specs.Public.OneRow.{RowShown, row_shown}
use Rattle.csi_controller.specs.Private.Plan.{is_row_kept}
use Rattle.csi_controller.proofs.NameMaps.{found-got}
use Rattle.csi_controller.proofs.names.is_id_kept.Goals as goal

pub returns-in-Some : goal.returns-in-Some
returns-in-Some c =
    let rows = c.args.rows.now in
    let row = c.index-rows-place.result in
    c.stays.ensures
    ∙ ap (λ (b : Bool). b || (row.last.session == c.args.session)) (sym (not-not row.live))
    ∙ ap (is_row_kept c.args.session) (sym (found-got rows c.args.id c.in-Some.place row c.in-Some.ensures c.index-rows-place.is))

pub returns-in-None : goal.returns-in-None
returns-in-None c = ap (is_row_kept c.args.session) (sym (find-no_place (λ (r : RowShown). r.volume.id == c.args.id) (map row_shown c.args.rows.now) (sym c.in-None.ensures)))
