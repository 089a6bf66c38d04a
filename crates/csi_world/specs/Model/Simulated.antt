-- What a simulated world shows, and which world that is. This profile's own.
use Rattle.std.specs.Prelude.{◌≡◌, List, [], ◌∷◌}
use Rattle.csi_types.specs.Model.Config.{Config}
use Rattle.csi_types.specs.Model.Frame.{Frame}
use Rattle.csi_controller.specs.Model.Core.{Shows as ControllerShows}
use Rattle.csi_controller.specs.Model.Core.{ControllerParts}
use Rattle.csi_node.specs.Model.Record.{NodeParts}
use Rattle.csi_node.specs.Model.Record.{Shows as NodeShows}
use Rattle.csi_orchestrator.specs.Model.WellFormed.{IsWellFormed}
use Rattle.csi_orchestrator.specs.Model.Shown.{Shows as OrchestratorShows}
use Rattle.csi_orchestrator.specs.Model.Shown.{OrchestratorParts}
use Rattle.csi_world.specs.declared.outcomes.Outcome.{Outcome}
use Rattle.csi_world.specs.Model.World.{NodeAt, World}
use Rattle.csi_world.specs.Model.After.{Run}

-- a simulated world to its callers: the configuration, every frame that was sent, what came of each event, and the parts of the system
pub record WorldParts : Type 0 where
  pub config : Config
  pub frames : List Frame
  pub outcomes : List Outcome
  pub controller : ControllerParts
  pub nodes : List NodeParts
  pub orchestrator : OrchestratorParts

-- node by node
abbrev pub AreNodesShown : List NodeParts → List NodeAt → Type 0
AreNodesShown [] [] = Unit {0}
AreNodesShown [] (node ∷ nodes) = ⊥
AreNodesShown (shown ∷ others) [] = ⊥
AreNodesShown (shown ∷ others) (node ∷ nodes) = (shown.id ≡ node.id) × NodeShows shown node.state × AreNodesShown others nodes

-- it is this world: the same configuration, the same frames in the same order, the same states of the plugins, and an orchestrator that
-- agrees with the history, its list of nodes too
pub record ShowsWorld (shown : WorldParts) (world : World) : Type 0 where
  pub config : shown.config ≡ world.config
  pub frames : shown.frames ≡ world.frames
  pub controller : ControllerShows shown.controller world.controller
  pub nodes : AreNodesShown shown.nodes world.nodes
  pub orchestrator : OrchestratorShows shown.orchestrator world.history
  pub form : IsWellFormed world.history
  pub own_config : (shown.controller).config ≡ shown.config

-- it is the last world of this run, and has its outcomes
pub record ShowsRun (shown : WorldParts) (run : Run) : Type 0 where
  pub world : ShowsWorld shown run.world
  pub outcomes : shown.outcomes ≡ run.outcomes
