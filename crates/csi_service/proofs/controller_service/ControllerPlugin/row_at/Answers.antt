-- A row of a controller, as it is spelled, has few holdings.
use Rattle.std.proofs.Common.{◌∙◌, sym, ap, subst, ℕ, zero, suc, List, [], ◌∷◌, IfSome, slice_get}
use Rattle.std.specs.Prelude.{Option, option_map}
use Rattle.std.specs.List.{AllByRecursion}
use Rattle.std.proofs.lemmas.Option.{slice_get-map}
use Rattle.csi_controller.specs.declared.row.ControllerRow.{ControllerRow}
use Rattle.csi_controller.specs.Public.Core.{IsSoundRow}
use Rattle.csi_records.specs.Public.Spelling.{volume_row}
use Rattle.csi_records.specs.Public.Writing.{AreHeldFew}
use Rattle.csi_service.proofs.controller_service.ControllerPlugin.row_at.Goals as goal

-- what is got at a place has few
few-got : (next_id : ℕ) (rows : List ControllerRow) (place : ℕ) → AllByRecursion (IsSoundRow next_id) rows → IfSome (slice_get rows place) AreHeldFew
few-got next_id [] place each = tt
few-got next_id (row ∷ rows) zero each = each.0.limit
few-got next_id (row ∷ rows) (suc place) each = few-got next_id rows place each.1

pub returns-clause-row : goal.returns-clause-row
returns-clause-row c = ap (option_map volume_row) c.row_at.ensures ∙ sym (slice_get-map volume_row c.args.self.now.rows c.args.place)

pub returns-clause-small : goal.returns-clause-small
returns-clause-small c =
    subst (λ (o : Option ControllerRow). IfSome o AreHeldFew) (sym c.row_at.ensures) (few-got c.args.self.now.next_id c.args.self.now.rows c.args.place c.sound_law.ensures.each)
