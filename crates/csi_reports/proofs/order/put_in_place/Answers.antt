-- The order of places is one by which can be sorted.
use Rattle.std.proofs.Common.{rules}
use Rattle.std.proofs.lemmas.List.Sorted.{ranks_by, answers_always}
use Rattle.std.specs.Ordering.{is_lt}
use Rattle.csi_reports.specs.Public.Order.{place_order}
use Rattle.csi_reports.proofs.Places.{order-total}
use Rattle.csi_reports.proofs.order.put_in_place.Goals as goal

pub returns : goal.returns
returns g c =
    record {
      moved = c.sort_unstable_by.ensures.permutation;
      rising =
          c.sort_unstable_by.ensures.sorted (λ a b. is_lt (place_order (g.T.Placed.place a) (g.T.Placed.place b)))
          (ranks_by order-total (λ entry. g.T.Placed.place entry)) (answers_always _ _ _ (λ f a r f' k. search rules));
    }
