-- The rows that were lent, put in their places.
use Rattle.std.proofs.Common.{◌≡◌, List, map, refl, sym, ap, ◌∙◌, subst}
use Rattle.std.specs.Borrow.{Bor}
use Rattle.csi_types.proofs.Maps.{map-twice}
use Rattle.csi_orchestrator.specs.declared.row.Row.{Row}
use Rattle.csi_orchestrator.specs.Model.Shown.{RowShown}
use Rattle.csi_orchestrator.specs.Public.Shown.{row_shown}
use Rattle.csi_reports.specs.Public.ByName.{row_place}
use Rattle.csi_reports.specs.Public.Order.{IsInPlace}
use Rattle.csi_reports.proofs.SeenInPlace.{seen-in-place}
use Rattle.csi_reports.proofs.by_name.rows_by_name.Goals as goal

pub returns : goal.returns
returns c =
    let see : Bor Row → RowShown = λ row. row_shown row.now in
    let lent : List (Bor Row) = c.in_ok-lent.lent.items in
    let sorted : List (Bor Row) = c.put_in_place.new.items.items in
    let same : map see lent ≡ map row_shown c.args.rows.now = sym (map-twice row_shown (λ (row : Bor Row). row.now) see lent (λ row. refl)) ∙ ap (map row_shown) c.in_ok-lent.ensures in
    subst (λ (from : List RowShown). IsInPlace row_place from (map see sorted)) same (seen-in-place see row_place lent sorted c.put_in_place.ensures)
