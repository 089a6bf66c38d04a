-- The row at its place.
use Rattle.std.proofs.Common.{◌∙◌, Some, None, map, ap, sym, subst}
use Rattle.std.specs.Prelude.{Option, find, option_map, ◌==◌}
use Rattle.csi_types.proofs.Options.{none-from_map, some_is_not_none}
use Rattle.csi_types.proofs.Searches.{find-no_place}
use Rattle.csi_controller.specs.declared.row.ControllerRow.{ControllerRow}
use Rattle.csi_controller.specs.Public.OneRow.{RowShown, row_shown}
use Rattle.csi_controller.specs.Public.Views.{IsCopyOf}
use Rattle.csi_controller.proofs.AnswersTold.{copy-shown, found-shown}
use Rattle.csi_controller.proofs.NameMaps.{found-got}
use Rattle.csi_controller.proofs.controller.readers.copied_row.Goals as goal
use Rattle.csi_controller.proofs.Copies.{same-shown}

pub returns-in_ok-copy-in-Some-clause-copy : goal.returns-in_ok-copy-in-Some-clause-copy
returns-in_ok-copy-in-Some-clause-copy c =
    let rows = c.args.rows.now in
    let row = c.index-rows-place.result in
    copy-shown (find (λ (r : ControllerRow). r.id == c.args.id) rows) (Some c.in_ok-copy-in-Some.copy)
    (found-shown c.args.id rows ∙ found-got rows c.args.id c.in-Some.place row c.in-Some.ensures c.index-rows-place.is
    ∙ ap Some (same-shown row c.in_ok-copy-in-Some.copy c.in_ok-copy-in-Some.ensures.cases))

pub returns-in_err-copy-in-Some-clause-succeeds : goal.returns-in_err-copy-in-Some-clause-succeeds
returns-in_err-copy-in-Some-clause-succeeds c = λ none.
    let rows = c.args.rows.now in
    let row = c.index-rows-place.result in
    absurd (some_is_not_none (row_shown row)
    (sym (found-shown c.args.id rows ∙ found-got rows c.args.id c.in-Some.place row c.in-Some.ensures c.index-rows-place.is)
    ∙ ap (option_map row_shown) none))

pub returns-in-None-clause-copy : goal.returns-in-None-clause-copy
returns-in-None-clause-copy c =
    let rows = c.args.rows.now in
    subst (λ (o : Option ControllerRow). IsCopyOf o None)
    (sym (none-from_map row_shown (find (λ (r : ControllerRow). r.id == c.args.id) rows) (found-shown c.args.id rows ∙ find-no_place (λ (r : RowShown). r.volume.id == c.args.id) (map row_shown rows) (sym c.in-None.ensures)))) tt
