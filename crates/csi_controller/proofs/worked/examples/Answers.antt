-- The publish is told by the law, at the state after the volume was made, and at its publish.
use Rattle.std.proofs.Common.{refl}
use Rattle.csi_controller.specs.Private.Worked.{four_nodes, made_v, second, publish_v}
use Rattle.csi_controller.proofs.worked.examples.Goals as goal

pub returns-clause-publish_by_the_laws : goal.returns-clause-publish_by_the_laws
returns-clause-publish_by_the_laws c law = (law four_nodes made_v second publish_v (record { not_over = refl; fresh = refl })).done refl
