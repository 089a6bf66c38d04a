-- The rows, put in order.
use Rattle.std.proofs.Common.{rules}
use Rattle.std.specs.Cmp.{nat_cmp_total}
use Rattle.std.specs.Ordering.{nat_cmp, is_lt}
use Rattle.std.proofs.lemmas.List.Sorted.{ranks_by, answers_always}
use Rattle.csi_controller.specs.declared.row.ControllerRow.{ControllerRow}
use Rattle.csi_recovery.proofs.rebuilding.rising.Goals as goal

pub returns : goal.returns
returns c =
    record {
      from = c.in_ok-made.made.items;
      are = c.in_ok-made.ensures;
      moved = c.sort_unstable_by.ensures.permutation;
      sorted = c.sort_unstable_by.ensures.sorted (λ (a b : ControllerRow). is_lt (nat_cmp a.id b.id)) (ranks_by nat_cmp_total (λ (row : ControllerRow). row.id)) (answers_always _ _ _ (λ f a r f' k. search rules));
    }
