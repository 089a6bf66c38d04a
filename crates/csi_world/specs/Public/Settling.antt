-- How a volume comes to rest: one timeout, and deliveries of the frames that are sent from there on. This profile's own.
use Rattle.std.specs.Prelude.{◌≡◌, ◌⊎◌, ℕ, zero, suc, ◌+◌, ◌^◌, ◌<◌, ◌≤◌, List, [], ◌∷◌, ◌++◌, length, true, false, slice_get, not, ◌||◌, Option, Some, None, is_none, IsSome, if◌then◌else◌}
use Rattle.std.specs.List.{list_any}
use Rattle.csi_types.specs.declared.event.Event.{Event}
use Rattle.csi_types.specs.declared.event.Event.TheVariants.{Timeout, Deliver, Settle}
use Rattle.csi_types.specs.Model.Config.{Config}
use Rattle.csi_types.specs.Model.Same.{same_text}
use Rattle.csi_types.specs.declared.call.Kind.{Kind}
use Rattle.csi_types.specs.declared.call.Kind.TheVariants as kinds
use Rattle.csi_types.specs.declared.call.Party.{Party}
use Rattle.csi_types.specs.declared.number.Number.{Number}
use Rattle.csi_types.specs.declared.reply.Reply.{Reply}
use Rattle.csi_types.specs.Model.Reply.{is_ok_status}
use Rattle.csi_types.specs.Model.Replies.{reply_frame}
use Rattle.csi_orchestrator.specs.declared.thing.Known.TheVariants.{Yes, No}
use Rattle.csi_orchestrator.specs.declared.thing.Thing.TheVariants.{Exists, Attached, Staged, Published}
use Rattle.csi_orchestrator.specs.Model.Due.{targets_in_use}
use Rattle.csi_orchestrator.specs.Model.History.{Goal, Create, Use, Stop, Delete, History}
use Rattle.csi_orchestrator.specs.Model.Readings.{goal_of, has_row, id_of, known, last_number, nodes_of, tries}
use Rattle.csi_world.specs.declared.outcomes.Outcome.TheVariants as outcomes
use Rattle.csi_world.specs.Model.World.{World, empty_world, node_state}
pub use Rattle.csi_world.specs.Model.After.{is_at_rest}
use Rattle.csi_world.specs.Model.After.{frame_numbered, occurs, after_from}

-- deliveries, at most so many, of the frame behind this place and then of each one behind that, until the volume is at rest or there is no
-- such frame
abbrev pub deliveries : ℕ → World → List ℕ → ℕ → List Event
deliveries zero world name place = []
deliveries (suc more) world name place =
    if is_at_rest world name || is_none (frame_numbered world (suc place)) then []
    else Deliver (suc place) ∷ deliveries more (occurs world (Deliver (suc place))).world name (suc place)

-- a timeout, and then the deliveries of what is sent from there on, the oldest first, twelve at most; nothing where nothing is wanted, or
-- where the name has no row
abbrev pub settling : World → List ℕ → List Event
settling world name =
    if is_at_rest world name || not (has_row world.history name) then []
    else Timeout name ∷ deliveries 12 (occurs world (Timeout name)).world name (length world.frames)

-- the world after them
abbrev pub settled : World → List ℕ → World
settled world name = (after_from world (settling world name)).world

-- an event, told by events that are no settling: what settles a volume is its timeout and its deliveries
abbrev pub spelled : World → Event → List Event
spelled world (Settle name) = settling world name
spelled world event = event ∷ []

-- so are many, one after another
abbrev pub spelled_from : World → List Event → List Event
spelled_from world [] = []
spelled_from world (event ∷ others) = spelled world event ++ spelled_from (occurs world event).world others

-- those of a run
abbrev pub spelled_out : Config → List Event → List Event
spelled_out config events = spelled_from (empty_world config) events

-- the node of a use or a stop
abbrev pub node_in : Option Goal → Option (List ℕ)
node_in (Some (Use usage)) = Some usage.node
node_in (Some (Stop node target)) = Some node
node_in goal = None

-- what has to be so: six numbers are left in the session, and the goal's node is there, where the orchestrator's list has it
pub record MaySettle (world : World) (name : List ℕ) : Type 0 where
  pub numbers : (last_number world.history).call + 6 < 2 ^ 64
  pub there : (node : List ℕ) → node_in (goal_of world.history name) ≡ Some node → list_any (same_text node) (nodes_of world.history) ≡ true → IsSome (node_state node world)

-- the volume isn't published at the target; and where it may be published at no other target of the node, it isn't staged or attached there
pub record IsStopped (history : History) (name node target : List ℕ) : Type 0 where
  pub unpublished : known history (Published name node target) ≡ No
  pub unstaged : targets_in_use history name node ≡ [] → known history (Staged name node) ≡ No
  pub detached : targets_in_use history name node ≡ [] → known history (Attached name node) ≡ No

-- a reply with another status than OK is among the frames behind so many
pub record WasRefused (world : World) (sent : ℕ) : Type 0 where
  pub place : ℕ
  pub number : Number
  pub party : Party
  pub kind : Kind
  pub reply : Reply
  pub is_there : slice_get world.frames place ≡ Some (reply_frame number party kind reply)
  pub since : sent ≤ place
  pub refused : is_ok_status reply.status ≡ false

-- what becomes of what was wanted. A volume that was to be made has an id, or its creation was refused. A use that was tried fewer than
-- three times, and of which no call is refused, came about; any other is stopped. A stop came about; what was to be deleted isn't there
abbrev pub EndsSo : World → World → List ℕ → Option Goal → Type 0
EndsSo old new name None = Unit {0}
EndsSo old new name (Some (Create arguments)) = IsSome (id_of new.history name) ⊎ ((was : WasRefused new (length old.frames)) × (was.kind ≡ kinds.CreateVolume))
EndsSo old new name (Some (Use usage)) =
    ((known new.history (Published name usage.node usage.target) ≡ Yes) × (WasRefused new (length old.frames) → ⊥) × (tries old.history name < 3))
    ⊎ (IsStopped new.history name usage.node usage.target × (WasRefused new (length old.frames) ⊎ (tries old.history name ≡ 3)))
EndsSo old new name (Some (Stop node target)) = IsStopped new.history name node target
EndsSo old new name (Some Delete) = known new.history (Exists name) ≡ No

-- the volume comes to rest, and so ends what was wanted of it; a schedule's event that settles it is these events
pub record Settles (world : World) (name : List ℕ) : Type 0 where
  pub rest : is_at_rest (settled world name) name ≡ true
  pub ends : EndsSo world (settled world name) name (goal_of world.history name)
  pub event : occurs world (Settle name) ≡ record { world = settled world name; outcome = outcomes.Settled (length (settling world name)) }
