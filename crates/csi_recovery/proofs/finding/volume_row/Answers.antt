-- At its place.
use Rattle.std.proofs.Common.{sym, ◌∙◌}
use Rattle.std.specs.Prelude.{◌==◌}
use Rattle.csi_types.proofs.Searches.{find-no_place}
use Rattle.csi_controller.specs.declared.row.ControllerRow.{ControllerRow}
use Rattle.csi_controller.proofs.Sound.{two-rise}
use Rattle.csi_recovery.proofs.Found.{placed-found}
use Rattle.csi_recovery.proofs.finding.volume_row.Goals as goal

pub place_of_volume-requires : goal.place_of_volume-requires
place_of_volume-requires c = two-rise c.args.rows.now c.requires

pub returns-in-Some : goal.returns-in-Some
returns-in-Some c =
    placed-found (λ (row : ControllerRow). row.id == c.args.id) c.args.rows.now c.in-Some.place c.index-rows-place.result (sym c.place_of_volume.ensures ∙ c.in-Some.is) c.index-rows-place.is

pub returns-in-None : goal.returns-in-None
returns-in-None c = sym (find-no_place (λ (row : ControllerRow). row.id == c.args.id) c.args.rows.now (sym c.place_of_volume.ensures ∙ c.in-None.is))
