-- What is to be proved of worlds, in one place: safety, the plugins' table laws, and that a run is made of steps.
use Rattle.std.specs.Prelude.{◌≡◌, ℕ, ◌+◌, ◌≤◌, List, [], ◌∷◌, length}
use Rattle.csi_types.specs.Model.Config.{Config}
use Rattle.csi_types.specs.declared.event.Event.{Event}
use Rattle.csi_types.specs.declared.event.Event.TheVariants as events
use Rattle.csi_orchestrator.specs.Model.Readings.{names_of}
use Rattle.csi_world.specs.Model.World.{World, empty_world}
use Rattle.csi_world.specs.Public.Step.{Choice, MayChoose, chosen, MayChooseAll, chosen_all}
use Rattle.csi_world.specs.Private.Step.{Step}
use Rattle.csi_world.specs.Model.Safe.{Safe}
use Rattle.csi_world.specs.Model.After.{occurs, after}

-- how many steps an event is made of at most: three; where a session begins two, and one for each name; and of what settles a volume three for each
-- of its thirteen
abbrev pub most_steps : World → Event → ℕ
most_steps world events.RestartOrchestrator = 2 + length (names_of world.history)
most_steps world (events.RestartOrchestratorWith nodes) = 2 + length (names_of world.history)
most_steps world (events.Lose node) = 2 + length (names_of world.history)
most_steps world (events.Settle name) = 39
most_steps world event = 3

-- and so many events
abbrev pub most_steps_from : World → List Event → ℕ
most_steps_from world [] = 0
most_steps_from world (event ∷ others) = most_steps world event + most_steps_from (occurs world event).world others

-- the world of a run is one to which steps lead, few for each event
pub record IsMadeOfSteps (config : Config) (list : List Event) : Type 0 where
  pub choices : List Choice
  pub may : MayChooseAll (empty_world config) choices
  pub few : length choices ≤ most_steps_from (empty_world config) list
  pub same_world : chosen_all (empty_world config) choices ≡ (after config list).world

-- so for every run
abbrev pub RunsAreSteps : Type 0
RunsAreSteps = (config : Config) (events : List Event) → IsMadeOfSteps config events

-- what may be chosen is a step
abbrev pub ChoicesAreSteps : Type 0
ChoicesAreSteps = (world : World) (choice : Choice) → MayChoose world choice → Step world (chosen world choice)

-- the empty world is safe
abbrev pub EmptyIsSafe : Type 0
EmptyIsSafe = (config : Config) → Safe (empty_world config)
