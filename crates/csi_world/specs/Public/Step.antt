-- What may happen in a world whose orchestrator keeps the guards, whatever else it does, and in whatever order
-- frames come, while nodes join and are lost and the controller gets other configurations. This profile's own; the guards are
-- CSI's ("Volume Lifecycle").
use Rattle.std.specs.Prelude.{◌≡◌, ℕ, ◌<◌, List, [], ◌∷◌, Option, Some, None}
use Rattle.csi_types.specs.declared.number.Number.{Number}
use Rattle.csi_types.specs.declared.reply.Reply.{Reply}
use Rattle.csi_types.specs.Model.Call.{kind_of}
use Rattle.csi_types.specs.Model.Config.{Config}
use Rattle.csi_types.specs.Model.Frame.{Frame}
use Rattle.csi_types.specs.Model.Members.{IsAmong}
use Rattle.csi_types.specs.Model.Replies.{reply_frame}
use Rattle.csi_orchestrator.specs.Model.Thing.{Issued}
use Rattle.csi_orchestrator.specs.Model.History.{Goal, Started, Lost, Forgotten, Sent, Accepted, Closed, Noted}
use Rattle.csi_orchestrator.specs.Model.Readings.{open_call, last_number}
use Rattle.csi_orchestrator.specs.Model.WellFormed.{IsNextNumber, IsOpen}
use Rattle.csi_orchestrator.specs.Public.Guards.{MayIssue}
use Rattle.csi_world.specs.Model.World.{World, node_state, with_new_node, without_node, with_frame, with_history}
use Rattle.csi_world.specs.Model.Step.{answered_by_plugin}
use Rattle.csi_orchestrator.specs.Public.Steps.{MayForget, frame_of}

-- what is chosen to be done: the orchestrator sends a call, gives one up, takes a reply to one, notes what is wanted, starts a
-- session with a list of nodes, forgets a name; a plugin answers a frame; a node joins; the controller gets a configuration. A node is
-- lost in one step with the session that begins then: it is no more, and what was staged and published there isn't so any more. By that
-- step the operator promises: the machine is off for good, and its store never comes back; an emptied store is a lost node
pub data Choice : Type 0 where
  Sends : (issued : Issued) → Choice
  Closes : (number : Number) → Choice
  Takes : (issued : Issued) (reply : Reply) → Choice
  Notes : (name : List ℕ) (goal : Option Goal) → Choice
  Starts : (session : ℕ) (nodes : List (List ℕ)) → Choice
  Forgets : (name : List ℕ) → Choice
  Answers : (frame : Frame) → Choice
  Joins : (node : List ℕ) → Choice
  Loses : (node : List ℕ) (session : ℕ) (nodes : List (List ℕ)) → Choice
  Configures : (config : Config) → Choice

-- a call that is guarded, under any later number of the session
pub record MaySend (world : World) (issued : Issued) : Type 0 where
  pub numbered : IsNextNumber (last_number world.history) issued.number
  pub allowed : MayIssue world.history issued.name issued.party issued.call

-- an open call, and a reply to it that was sent
pub record MayTake (world : World) (issued : Issued) (reply : Reply) : Type 0 where
  pub is_open : open_call world.history issued.name ≡ Some issued
  pub was_sent : IsAmong (reply_frame issued.number issued.party (kind_of issued.call) reply) world.frames

-- any goal may be noted, any list of nodes taken, any configuration given, and any frame that was ever sent may come; a node joins
-- where none of its id is there, and any node may be lost
abbrev pub MayChoose : World → Choice → Type 0
MayChoose world (Sends issued) = MaySend world issued
MayChoose world (Closes number) = IsOpen world.history.items number
MayChoose world (Takes issued reply) = MayTake world issued reply
MayChoose world (Notes name goal) = Unit {0}
MayChoose world (Starts session nodes) = (last_number world.history).session < session
MayChoose world (Forgets name) = MayForget world.history name
MayChoose world (Answers frame) = IsAmong frame world.frames
MayChoose world (Joins node) = node_state node world ≡ None
MayChoose world (Loses node session nodes) = (last_number world.history).session < session
MayChoose world (Configures config) = Unit {0}

-- the world after a choice; a node that joins is told the session of the orchestrator's last number
abbrev pub chosen : World → Choice → World
chosen world (Sends issued) = with_frame (Some (frame_of issued)) (with_history (Sent issued ∷ []) world)
chosen world (Closes number) = with_history (Closed number ∷ []) world
chosen world (Takes issued reply) = with_history (Accepted issued.number reply.status reply.id ∷ []) world
chosen world (Notes name goal) = with_history (Noted name goal ∷ []) world
chosen world (Starts session nodes) = with_history (Started session nodes ∷ []) world
chosen world (Forgets name) = with_history (Forgotten name ∷ []) world
chosen world (Answers frame) = answered_by_plugin world frame
chosen world (Joins node) = with_new_node (last_number world.history).session node world
chosen world (Loses node session nodes) = without_node node (with_history (Lost node ∷ Started session nodes ∷ []) world)
chosen world (Configures config) = record world { config = config }

-- each of the choices may be made in its turn
abbrev pub MayChooseAll : World → List Choice → Type 0
MayChooseAll world [] = Unit {0}
MayChooseAll world (choice ∷ choices) = MayChoose world choice × MayChooseAll (chosen world choice) choices

-- the world after all of them
abbrev pub chosen_all : World → List Choice → World
chosen_all world [] = world
chosen_all world (choice ∷ choices) = chosen_all (chosen world choice) choices
