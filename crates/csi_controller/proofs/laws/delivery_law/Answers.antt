-- The law holds in every state that is orderly and safe and remembers no later session, and frames lead to no other.
use Rattle.csi_controller.specs.Model.State.{empty_controller}
use Rattle.csi_controller.specs.Public.Fenced.{after_configured}
use Rattle.csi_controller.proofs.DeliveryLaw.{empty_view, closed_view, delivered}
use Rattle.csi_controller.proofs.OrderlyStates.{came_orderly}
use Rattle.csi_controller.proofs.RememberedStates.{came_recent}
use Rattle.csi_controller.proofs.SafeStates.{came_exclusive}
use Rattle.csi_controller.proofs.laws.delivery_law.Goals as goal

pub returns : goal.returns
returns c = record {
  empty = empty_view;
  closed = closed_view;
  delivered = λ config came number call party.
      delivered config (after_configured empty_controller came) number call (came_orderly came) (came_exclusive came) (came_recent came) party;
}
