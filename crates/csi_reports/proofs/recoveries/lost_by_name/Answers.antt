-- The nodes, put in their places.
use Rattle.std.proofs.Common.{ℕ, List, subst}
use Rattle.csi_reports.specs.Public.ByName.{name_place}
use Rattle.csi_reports.specs.Public.Order.{IsInPlace}
use Rattle.csi_reports.proofs.recoveries.lost_by_name.Goals as goal

pub returns : goal.returns
returns c = subst (λ (from : List (List ℕ)). IsInPlace name_place from c.put_in_place.new.items.items) c.in_ok-lost.ensures c.put_in_place.ensures
