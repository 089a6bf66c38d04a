use Rattle.csi_service.proofs.SoFar.{removed-more}
use Rattle.csi_service.proofs.opening.left_out.Goals as goal

pub loop-part-preserved : goal.loop-part-preserved
loop-part-preserved c = removed-more c.args.found.now c.args.parts.now c.loop-part.part-index c.part-item.result _ _ c.loop-part-test.true c.part-item.is c.loop-part.invariant c.in_ok-push_unless.ensures
