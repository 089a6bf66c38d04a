use Rattle.std.proofs.Common.{arith}
use Rattle.std.proofs.lemmas.Bool.Decides.{nat_tests}
use Rattle.csi_service.proofs.WholeChanges.{one-more-behind}
use Rattle.csi_service.proofs.orchestrator_changes.push_removals_behind.Goals as goal

pub loop-place-preserved : goal.loop-place-preserved
loop-place-preserved c =
    let so_far = c.loop-place.invariant in
    let low = so_far.low in
    record {
      taken = one-more-behind c.args.now c.loop-place.place _ _ _ low so_far.taken c.in_ok-push_removal.ensures.ok;
      low = omega (arith, low);
      high = grind (arith, nat_tests);
    }
