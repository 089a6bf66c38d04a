-- Frames lead to orderly states alone, and each frame keeps names and ids.
use Rattle.csi_controller.specs.Model.State.{empty_controller}
use Rattle.csi_controller.specs.Public.Fenced.{after_configured}
use Rattle.csi_controller.proofs.NamesLaw.{reached_named, keeps_names}
use Rattle.csi_controller.proofs.OrderlyStates.{came_orderly}
use Rattle.csi_controller.proofs.laws.names_law.Goals as goal

pub returns : goal.returns
returns c = record { named = reached_named; keeps_names = λ config came frame. keeps_names config (after_configured empty_controller came) frame (came_orderly came) }
