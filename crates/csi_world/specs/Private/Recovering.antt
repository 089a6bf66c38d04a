-- The nodes of a world whose orchestrator is made of what its plugins keep. This profile's own.
use Rattle.std.specs.Prelude.{◌≡◌, ℕ, List, [], ◌∷◌, ◌++◌}
use Rattle.csi_node.specs.Model.Record.{NodeParts}
use Rattle.csi_node.specs.Model.Record.{Shows as NodeShows}
use Rattle.csi_node.specs.Model.State.{NodeState}
use Rattle.csi_node.specs.Public.Raised.{raised}
use Rattle.csi_controller.specs.Model.Core.{Shows as ControllerShows}
use Rattle.csi_controller.specs.Model.State.{ControllerState}
use Rattle.csi_controller.specs.Public.Raised as controller
use Rattle.csi_orchestrator.specs.Model.Shown.{OrchestratorParts}
use Rattle.csi_world.specs.declared.outcomes.Outcome.TheVariants as outcomes
use Rattle.csi_world.specs.Model.Simulated.{WorldParts}
use Rattle.csi_world.specs.Public.Given.{AreThose}

-- a node whose session is raised
pub record IsRaised (session : ℕ) (old new : NodeParts) : Type 0 where
  pub id : new.id ≡ old.id
  pub shown : (state : NodeState) → NodeShows old state → NodeShows new (raised session state)

-- a system after a recovery: this is its orchestrator, the plugins' sessions are raised, the nodes that aren't given are no more, and it is logged
pub record HasRecovered (session : ℕ) (given : List (List ℕ)) (made : OrchestratorParts) (old new : WorldParts) : Type 0 where
  pub config : new.config ≡ old.config
  pub frames : new.frames ≡ old.frames
  pub outcomes : new.outcomes ≡ old.outcomes ++ outcomes.Recovered ∷ []
  pub controller : (state : ControllerState) → ControllerShows old.controller state → ControllerShows new.controller (controller.raised session state)
  pub own_config : (new.controller).config ≡ (old.controller).config
  pub nodes : AreThose (IsRaised session) given old.nodes new.nodes
  pub orchestrator : new.orchestrator ≡ made
