use Rattle.csi_types.specs.Public.VolumeId.{IsVolumeId}
use Rattle.csi_service.proofs.SoFar.{each-more}
use Rattle.csi_service.proofs.changed.ids_law.Goals as goal

pub loop-id-preserved : goal.loop-id-preserved
loop-id-preserved c = each-more IsVolumeId c.args.ids.now c.loop-id.id-index c.id-item.result c.loop-id-test.true c.id-item.is c.loop-id.invariant c.number-number.ensures.limits
