-- The law, at the state after the volume was staged, and at its publish.
use Rattle.std.proofs.Common.{refl}
use Rattle.std.specs.Prelude.{codes}
use Rattle.csi_node.specs.Private.Worked.{staged_v, number, publish_v}
use Rattle.csi_node.proofs.worked.publish_by_the_laws.Goals as goal

pub returns : goal.returns
returns c law = (law (codes "n1") 0 staged_v (number 2) publish_v (record { not_over = refl; fresh = refl })).done refl
