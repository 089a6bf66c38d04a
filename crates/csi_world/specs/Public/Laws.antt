-- What is to be proved of worlds, in one place: safety, the plugins' table laws, and that a run is made of steps.
use Rattle.std.specs.Prelude.{ℕ, ◌≤◌, List, length, take}
use Rattle.csi_types.specs.Model.Config.{Config}
use Rattle.csi_controller.specs.Public.Laws.{ControllerTableLaw}
use Rattle.csi_node.specs.Public.Laws.{NodeTableLaw}
use Rattle.csi_types.specs.declared.event.Event.{Event}
use Rattle.csi_world.specs.Model.World.{World, empty_world}
use Rattle.csi_world.specs.Public.Step.{Choice, MayChooseAll, chosen_all}
use Rattle.csi_world.specs.Model.Safe.{Safe}
use Rattle.csi_world.specs.Model.After.{after}
use Rattle.csi_world.specs.Public.Settling.{settling, MaySettle, Settles}

-- a fact of every world to which steps lead, whatever the configuration is first
abbrev pub HoldsInEveryWorld : (World → Type 0) → Type 0
HoldsInEveryWorld P =
    (config : Config) (choices : List Choice) → MayChooseAll (empty_world config) choices → P (chosen_all (empty_world config) choices)

-- every clause of safety, whatever an orchestrator does that keeps the guards, and whatever the network does
abbrev pub SafetyLaw : Type 0
SafetyLaw = HoldsInEveryWorld Safe

-- both plugins keep the laws of their tables
pub record TableLaws : Type 0 where
  pub controller : ControllerTableLaw
  pub node : NodeTableLaw

-- safe after every beginning of every list of events
abbrev pub RunsAreSafe : Type 0
RunsAreSafe = (config : Config) (events : List Event) (count : ℕ) → Safe (after config (take count events)).world

-- after every list of events, one timeout and at most twelve deliveries bring a volume to rest, where it may settle
abbrev pub RunsSettle : Type 0
RunsSettle =
    (config : Config) (events : List Event) (name : List ℕ)
    → (length (settling (after config events).world name) ≤ 13) × (MaySettle (after config events).world name → Settles (after config events).world name)
