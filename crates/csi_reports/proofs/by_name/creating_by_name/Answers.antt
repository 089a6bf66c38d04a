-- The names that were lent, put in their places.
use Rattle.std.proofs.Common.{ℕ, List, map, subst}
use Rattle.std.specs.Borrow.{Bor}
use Rattle.csi_reports.specs.Public.ByName.{name_place}
use Rattle.csi_reports.specs.Public.Order.{IsInPlace}
use Rattle.csi_reports.proofs.SeenInPlace.{seen-in-place}
use Rattle.csi_reports.proofs.by_name.creating_by_name.Goals as goal

pub returns : goal.returns
returns c =
    let see : Bor (List ℕ) → List ℕ = λ name. name.now in
    let sorted : List (Bor (List ℕ)) = c.put_in_place.new.items.items in
    subst (λ (from : List (List ℕ)). IsInPlace name_place from (map see sorted)) c.in_ok-lent.ensures (seen-in-place see name_place c.in_ok-lent.lent.items sorted c.put_in_place.ensures)
