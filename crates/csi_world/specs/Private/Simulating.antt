-- What each part of a simulated world does with an event. This profile's own.
use Rattle.std.specs.Prelude.{◌≡◌, ℕ, ◌+◌, List, [], ◌∷◌, ◌++◌, length, Option, Result, Ok, Err, IfOk}
use Rattle.std.specs.Option.{option_to_list}
use Rattle.csi_types.specs.Model.Config.{Config}
use Rattle.csi_types.specs.Model.Frame.{Frame}
use Rattle.csi_node.specs.Model.Record.{NodeParts}
use Rattle.csi_node.specs.Model.Record.{Shows as NodeShows}
use Rattle.csi_node.specs.Model.State.{NodeState}
use Rattle.csi_node.specs.Model.Fenced as node
use Rattle.csi_controller.specs.Model.Core.{Shows as ControllerShows}
use Rattle.csi_controller.specs.Model.Core.{ControllerParts}
use Rattle.csi_controller.specs.Model.State.{ControllerState}
use Rattle.csi_controller.specs.Model.Fenced as controller
use Rattle.csi_orchestrator.specs.declared.fault.OrchFault.{OrchFault}
use Rattle.csi_orchestrator.specs.declared.fault.OrchFault.TheVariants.{NoMemory}
use Rattle.csi_orchestrator.specs.Model.Moves.{Answer}
use Rattle.csi_types.specs.declared.event.Event.{Event}
use Rattle.csi_world.specs.declared.outcomes.Outcome.{Outcome}
use Rattle.csi_world.specs.declared.outcomes.Outcome.TheVariants as outcomes
use Rattle.csi_world.specs.Model.World.{World}
use Rattle.csi_world.specs.Model.After.{Occurred, by_answer, after}
use Rattle.csi_world.specs.Model.Simulated.{WorldParts, ShowsWorld, ShowsRun}
use Rattle.csi_world.specs.Public.Simulating.{IsSoundWorld}

-- a frame is sent under the next number
pub record IsSent (old new : List Frame) (frame : Frame) (number : ℕ) : Type 0 where
  pub frames : new ≡ old ++ frame ∷ []
  pub numbered : number ≡ length old + 1

-- the frame of an answer is sent, if it has one, and this is what comes of it
abbrev pub IsPosted : List Frame → List Frame → Answer → Outcome → Type 0
IsPosted old new answer outcome =
    (world : World) → world.frames ≡ old → by_answer world answer ≡ record { world = record world { frames = new }; outcome = outcome }

-- a refusal that isn't out of memory sends nothing
pub record IsInputRefused (old new : List Frame) (fault : OrchFault) (outcome : Outcome) : Type 0 where
  pub other : fault ≡ NoMemory → ⊥
  pub frames : new ≡ old
  pub came : outcome ≡ outcomes.Refused fault

-- what came of an input, whether it was refused or not
abbrev pub IsInputSettled : {X : Type 0} → (X → Answer) → List Frame → List Frame → Result X OrchFault → Outcome → Type 0
IsInputSettled answer old new (Ok x) outcome = IsPosted old new (answer x) outcome
IsInputSettled answer old new (Err fault) outcome = IsInputRefused old new fault outcome

-- a plugin's reply is sent, if there is one
pub record IsReplySent (old new : List Frame) (reply : Option Frame) (outcome : Outcome) : Type 0 where
  pub frames : new ≡ old ++ option_to_list reply
  pub came : outcome ≡ outcomes.Answered (length old + 1)

-- what a plugin does with a frame
pub record ControllerDoes (old new : ControllerParts) (frame : Frame) (reply : Option Frame) : Type 0 where
  pub config : new.config ≡ old.config
  pub replies : (state : ControllerState) → ControllerShows old state → reply ≡ (controller.fenced old.config state frame).reply
  pub state : (state : ControllerState) → ControllerShows old state → ControllerShows new (controller.fenced old.config state frame).state

-- what a node's plugin does with a frame
pub record NodeDoes (old new : NodeParts) (frame : Frame) (reply : Option Frame) : Type 0 where
  pub id : new.id ≡ old.id
  pub replies : (state : NodeState) → NodeShows old state → reply ≡ (node.fenced old.id state frame).reply
  pub state : (state : NodeState) → NodeShows old state → NodeShows new (node.fenced old.id state frame).state

-- a controller's reply to a frame is sent, if there is one
pub record ControllerReplies (old new : ControllerParts) (sent posted : List Frame) (frame : Frame) (outcome : Outcome) : Type 0 where
  pub reply : Option Frame
  pub does : ControllerDoes old new frame reply
  pub posts : IsReplySent sent posted reply outcome

-- a node's reply to a frame is sent, if there is one
pub record NodeReplies (old new : NodeParts) (sent posted : List Frame) (frame : Frame) (outcome : Outcome) : Type 0 where
  pub reply : Option Frame
  pub does : NodeDoes old new frame reply
  pub posts : IsReplySent sent posted reply outcome

-- a controller is as it was to its callers, but for its configuration, which is this
pub record IsSameController (given : Config) (old new : ControllerParts) : Type 0 where
  pub config : new.config ≡ given
  pub shown : (state : ControllerState) → ControllerShows old state → ControllerShows new state

-- a node's plugin is as it was to its callers
pub record IsSameNode (old new : NodeParts) : Type 0 where
  pub id : new.id ≡ old.id
  pub shown : (state : NodeState) → NodeShows old state → NodeShows new state

-- a node that answered nothing, and was told this session
abbrev pub new_node_parts : ℕ → List ℕ → NodeParts
new_node_parts session id = record { id = id; session = session; rows = [] }

-- it is the world after an event of which this came
pub record IsWorldAfter (old new : WorldParts) (outcome : Outcome) (occurred : Occurred) : Type 0 where
  pub outcomes : new.outcomes ≡ old.outcomes
  pub own : IsSoundWorld new
  pub world : ShowsWorld new occurred.world
  pub came : outcome ≡ occurred.outcome

-- so it is of every world that was shown before, unless memory was refused
abbrev pub Does : {E : Type 0} → WorldParts → WorldParts → Result Outcome E → (World → Occurred) → Type 0
Does old new result occurs = (world : World) → IsSoundWorld old → ShowsWorld old world → IfOk result (λ outcome. IsWorldAfter old new outcome (occurs world))

-- it is the world after an event, which is logged
pub record IsLogged (old new : WorldParts) (occurred : Occurred) : Type 0 where
  pub outcomes : new.outcomes ≡ old.outcomes ++ occurred.outcome ∷ []
  pub own : IsSoundWorld new
  pub world : ShowsWorld new occurred.world

-- it is the last world of the run of these events
pub record IsRun (config : Config) (events : List Event) (shown : WorldParts) : Type 0 where
  pub own : IsSoundWorld shown
  pub shows : ShowsRun shown (after config events)
