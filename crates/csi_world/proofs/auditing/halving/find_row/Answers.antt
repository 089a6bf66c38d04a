-- By where the row is.
use Rattle.csi_world.proofs.Words.{Bool, ◌==◌, sym, ◌∙◌, ControllerRow}
use Rattle.csi_world.proofs.Lemmas.{FirstAt-position, FirstAt-find, find-no_place}
use Rattle.csi_world.proofs.auditing.halving.find_row.Goals as goal

pub returns-in-Some : goal.returns-in-Some
returns-in-Some c =
    let p : ControllerRow → Bool = λ row. row.id == c.args.id in
    let row : ControllerRow = c.index-rows-place.result in
    let place = c.in-Some.place in
    sym (FirstAt-find p c.args.rows.now place row (FirstAt-position p c.args.rows.now place row (sym c.place_of_row.ensures ∙ c.in-Some.is) c.index-rows-place.is))

pub returns-in-None : goal.returns-in-None
returns-in-None c = sym (find-no_place (λ (row : ControllerRow). row.id == c.args.id) c.args.rows.now (sym c.place_of_row.ensures ∙ c.in-None.is))
