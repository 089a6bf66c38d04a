-- The row at its place.
use Rattle.std.proofs.Common.{◌≡◌, ◌∙◌, Bool, cond, map, Some, None, sym, ap, refl}
use Rattle.std.specs.Prelude.{position}
use Rattle.csi_types.proofs.Places.{FirstAt-find, FirstAt-position}
use Rattle.csi_types.proofs.Searches.{find-no_place}
use Rattle.csi_types.specs.Model.Same.{same_text}
use Rattle.csi_controller.specs.declared.row.ControllerRow.{ControllerRow}
use Rattle.csi_controller.specs.Public.OneRow.{RowShown, row_shown}
use Rattle.csi_controller.specs.Private.OneRow.{row_if_live}
use Rattle.csi_controller.proofs.NameMaps.{position-map}
use Rattle.csi_controller.proofs.controller.readers.volume.Goals as goal

pub returns-then-row : goal.returns-then-row
returns-then-row c =
    let p : ControllerRow → Bool = λ row. same_text row.name c.args.name.now in
    let rows = c.args.rows.now in
    let row = c.index-rows-place.result in
    let at : position p rows ≡ Some c.in-Some.place = sym (c.in-Some.ensures (map row_shown rows) c.requires ∙ position-map row_shown (λ (r : RowShown). same_text r.volume.name c.args.name.now) p rows (λ r. refl)) in
    sym (ap row_if_live (FirstAt-find p rows c.in-Some.place row (FirstAt-position p rows c.in-Some.place row at c.index-rows-place.is))
    ∙ ap (λ (b : Bool). cond b (Some (row.id, row.capacity)) None) c.if-row.true)

pub returns-else-row : goal.returns-else-row
returns-else-row c =
    let p : ControllerRow → Bool = λ row. same_text row.name c.args.name.now in
    let rows = c.args.rows.now in
    let row = c.index-rows-place.result in
    let at : position p rows ≡ Some c.in-Some.place = sym (c.in-Some.ensures (map row_shown rows) c.requires ∙ position-map row_shown (λ (r : RowShown). same_text r.volume.name c.args.name.now) p rows (λ r. refl)) in
    sym (ap row_if_live (FirstAt-find p rows c.in-Some.place row (FirstAt-position p rows c.in-Some.place row at c.index-rows-place.is))
    ∙ ap (λ (b : Bool). cond b (Some (row.id, row.capacity)) None) c.if-row.false)

pub returns-in-None : goal.returns-in-None
returns-in-None c =
    let p : ControllerRow → Bool = λ row. same_text row.name c.args.name.now in
    let rows = c.args.rows.now in
    let at : position p rows ≡ None = sym (c.in-None.ensures (map row_shown rows) c.requires ∙ position-map row_shown (λ (r : RowShown). same_text r.volume.name c.args.name.now) p rows (λ r. refl)) in
    sym (ap row_if_live (find-no_place p rows at))
