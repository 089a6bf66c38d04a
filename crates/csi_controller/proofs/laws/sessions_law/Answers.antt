-- Each state that frames lead to has recent volumes alone.
use Rattle.csi_controller.specs.Model.State.{empty_controller}
use Rattle.csi_controller.specs.Public.Fenced.{after_configured}
use Rattle.csi_controller.proofs.RememberedStates.{came_recent, remembers}
use Rattle.csi_controller.proofs.laws.sessions_law.Goals as goal

pub returns : goal.returns
returns c came = remembers (after_configured empty_controller came) (came_recent came)
