-- What a recovery keeps safe: worlds whose orchestrator is made of what its plugins keep, after its own store was lost; or whose controller is made
-- of what its orchestrator keeps. This profile's own.
use Rattle.std.specs.Prelude.{ℕ, zero, suc, ◌<◌, ◌≤◌, List, [], ◌∷◌, map, filter, Option, Some, None}
use Rattle.csi_types.specs.declared.call.Party.{Party}
use Rattle.csi_types.specs.declared.call.Party.TheVariants.{Controller, Node}
use Rattle.csi_types.specs.Model.Config.{Config}
use Rattle.csi_controller.specs.Model.State.{ControllerState}
use Rattle.csi_controller.specs.Public.Raised as controller
use Rattle.csi_node.specs.Model.State.{NodeState}
use Rattle.csi_node.specs.Public.Raised as node
use Rattle.csi_orchestrator.specs.Model.History.{Started, History, with_items}
use Rattle.csi_orchestrator.specs.Model.Readings.{last_number}
use Rattle.csi_orchestrator.specs.Model.Shown.{Shows}
use Rattle.csi_orchestrator.specs.Model.WellFormed.{IsWellFormed}
use Rattle.csi_orchestrator.specs.Public.Record.{RecordParts}
use Rattle.csi_orchestrator.specs.Public.Steps.{IsReached}
use Rattle.csi_world.specs.Model.World.{World, empty_world, node_state, with_node}
use Rattle.csi_world.specs.Model.Safe.{Safe}
use Rattle.csi_recovery.specs.Public.Recovered.{GivenNode, recovered, MayRecover}
use Rattle.csi_recovery.specs.Public.Rebuilt.{IsRecordOf, IsRebuilt}
use Rattle.csi_world.specs.Public.Step.{Choice, MayChooseAll, chosen_all}
use Rattle.csi_world.specs.Public.Recovery.{is_given, recovered_world}

-- the nodes that are there and whose stores are given, with what they know
abbrev pub given_of : List (List ℕ) → World → List GivenNode
given_of given world = map (λ at. record { id = at.id; state = at.state }) (filter (is_given given) world.nodes)

-- a node whose session is raised, if it is there
abbrev pub node_raised : List ℕ → ℕ → World → Option NodeState → World
node_raised id session world None = world
node_raised id session world (Some state) = with_node id (node.raised session state) world

-- one plugin's session is raised and nothing else, as where a recovery is cut off
abbrev pub plugin_raised : Party → ℕ → World → World
plugin_raised Controller session world = record world { controller = controller.raised session world.controller }
plugin_raised (Node id) session world = node_raised id session world (node_state id world)

-- what is made of the plugins has a history, as each orchestrator has that was opened from a record; and this holds of the world with it
pub record Recovers (Holds : World → Type 0) (nodes : List (List ℕ)) (session : ℕ) (given : List (List ℕ)) (world : World) : Type 0 where
  pub history : History
  pub reached : IsReached history
  pub form : IsWellFormed history
  pub shows : Shows (recovered nodes session world.controller (given_of given world)) history
  pub holds : Holds (recovered_world session given history world)

-- the world after a controller's store was lost and another took its place, and its orchestrator began this session with these nodes: each frame
-- that was ever sent is under way still, and the nodes, and what the orchestrator knows, are as they were
abbrev pub rebuilt_world : ControllerState → ℕ → List (List ℕ) → World → World
rebuilt_world controller session nodes world =
    record world { controller = controller; history = with_items world.history (Started session nodes ∷ []) }

-- the controller may take the place of the lost one: it is made of what the orchestrator's record has, in a session that is later than that of every
-- call that was sent, and its next id isn't below that of the lost one. The orchestrator then begins no earlier session
pub record MayReplace (controller : ControllerState) (session : ℕ) (world : World) : Type 0 where
  pub kept : RecordParts
  pub of_orchestrator : IsRecordOf kept world.history
  pub made : IsRebuilt controller.session controller.next_id kept.rows controller
  pub later : kept.session < controller.session
  pub word : world.controller.next_id ≤ controller.next_id
  pub begins : controller.session ≤ session

-- a world is safe; and this holds of it once a plugin's session was raised; after each recovery that isn't refused, in a session that is
-- later than that of every call that was sent; and after another controller took the place of a lost one
pub record IsSafeOn (Holds : World → Type 0) (world : World) : Type 0 where
  pub safe : Safe world
  pub raised : (party : Party) (session : ℕ) → Holds (plugin_raised party session world)
  pub recovered : (nodes given : List (List ℕ)) (session : ℕ) → (last_number world.history).session < session → MayRecover nodes session world.controller (given_of given world)
      → Recovers Holds nodes session given world
  pub rebuilt : (controller : ControllerState) (session : ℕ) (nodes : List (List ℕ)) → MayReplace controller session world → Holds (rebuilt_world controller session nodes world)

-- whatever is chosen, the world is safe, and stays so through so many recoveries, raises of one plugin or controllers that take a lost one's
-- place, whatever is chosen after each
abbrev pub StaysSafe : ℕ → World → Type 0
StaysSafe zero world = (choices : List Choice) → MayChooseAll world choices → Safe (chosen_all world choices)
StaysSafe (suc count) world = (choices : List Choice) → MayChooseAll world choices → IsSafeOn (StaysSafe count) (chosen_all world choices)

-- so it is with the first world, however many recoveries come
abbrev pub RecoveryLaw : Type 0
RecoveryLaw = (config : Config) (count : ℕ) → StaysSafe count (empty_world config)
