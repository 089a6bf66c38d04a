-- The run of a list of events. This profile's own.
use Rattle.std.specs.Prelude.{ℕ, zero, suc, ◌+◌, List, [], ◌∷◌, length, slice_get, Option, Some, None, Bool, is_some, is_none, not, ◌||◌, if◌then◌else◌, Result, Ok, Err}
use Rattle.std.specs.List.{list_any}
use Rattle.csi_types.specs.declared.call.Party.{Party}
use Rattle.csi_types.specs.declared.call.Party.TheVariants.{Controller, Node}
use Rattle.csi_types.specs.declared.frame.Body.{Body}
use Rattle.csi_types.specs.declared.frame.Body.TheVariants as bodies
use Rattle.csi_types.specs.Model.Config.{Config}
use Rattle.csi_types.specs.Model.Frame.{Frame}
use Rattle.csi_types.specs.Model.Same.{same_text}
use Rattle.csi_node.specs.Model.State.{NodeState}
use Rattle.csi_orchestrator.specs.declared.fault.Heard.TheVariants as heard
use Rattle.csi_orchestrator.specs.declared.fault.OrchFault.{OrchFault}
use Rattle.csi_orchestrator.specs.Model.Moves as orchestrator
use Rattle.csi_orchestrator.specs.Model.Readings.{goal_of, has_row, last_number, nodes_of}
use Rattle.csi_types.specs.declared.event.Event.{Event}
use Rattle.csi_types.specs.declared.event.Event.TheVariants as events
use Rattle.csi_world.specs.declared.outcomes.Outcome.{Outcome}
use Rattle.csi_world.specs.declared.outcomes.Outcome.TheVariants as outcomes
use Rattle.csi_world.specs.Model.World.{World, empty_world, node_state, with_new_node, without_node, with_frame, with_history}
use Rattle.csi_world.specs.Model.Step.{answered_by_plugin}

-- a world, and what came of the event that led to it
pub record Occurred : Type 0 where
  pub world : World
  pub outcome : Outcome

-- the number of the frame that is sent next
abbrev pub next_frame : World → ℕ
next_frame world = length world.frames + 1

-- a frame is sent, and the outcome has its number
abbrev pub sent_frame : World → Frame → (ℕ → Outcome) → Occurred
sent_frame world frame outcome = record { world = with_frame (Some frame) world; outcome = outcome (next_frame world) }

-- by the orchestrator's answer, where its history has gone on
abbrev pub by_answer : World → orchestrator.Answer → Occurred
by_answer world (orchestrator.Sends None) = record { world = world; outcome = outcomes.Met }
by_answer world (orchestrator.Sends (Some frame)) = sent_frame world frame outcomes.Sent
by_answer world (orchestrator.Hears heard.Ignored) = record { world = world; outcome = outcomes.Ignored }
by_answer world (orchestrator.Hears (heard.Taken None)) = record { world = world; outcome = outcomes.Taken None }
by_answer world (orchestrator.Hears (heard.Taken (Some frame))) = sent_frame world frame (λ number. outcomes.Taken (Some number))
by_answer world orchestrator.Restarted = record { world = world; outcome = outcomes.Restarted }
by_answer world orchestrator.GivenUp = record { world = world; outcome = outcomes.Lost }

-- by what the orchestrator's move was
abbrev pub by_result : World → Result orchestrator.Moved OrchFault → Occurred
by_result world (Ok moved) = by_answer (with_history moved.items world) moved.answer
by_result world (Err fault) = record { world = world; outcome = outcomes.Refused fault }

-- the orchestrator gets an input
abbrev pub orchestrated : World → orchestrator.Input → Occurred
orchestrated world input = by_result world (orchestrator.moves world.history input)

-- a call comes to its plugin, if it is there
abbrev pub called_at : World → Frame → Option NodeState → Occurred
called_at world frame None = record { world = world; outcome = outcomes.NoSuchNode }
called_at world frame (Some state) = record { world = answered_by_plugin world frame; outcome = outcomes.Answered (next_frame world) }

-- a call comes
abbrev pub called : World → Frame → Party → Occurred
called world frame Controller = record { world = answered_by_plugin world frame; outcome = outcomes.Answered (next_frame world) }
called world frame (Node id) = called_at world frame (node_state id world)

-- a call goes to its plugin, a reply to the orchestrator
abbrev pub delivered_body : World → Frame → Body → Occurred
delivered_body world frame (bodies.Call call) = called world frame frame.party
delivered_body world frame (bodies.Reply kind reply) = orchestrated world (orchestrator.Comes frame)

-- a frame is delivered, if it is there
abbrev pub delivered : World → Option Frame → Occurred
delivered world None = record { world = world; outcome = outcomes.NoSuchFrame }
delivered world (Some frame) = delivered_body world frame frame.body

-- the frame of a number, from 1
abbrev pub frame_numbered : World → ℕ → Option Frame
frame_numbered world zero = None
frame_numbered world (suc place) = slice_get world.frames place

-- a plugin that restarts has its record, and so is as it was
abbrev pub restarted_at : World → Option NodeState → Occurred
restarted_at world None = record { world = world; outcome = outcomes.NoSuchNode }
restarted_at world (Some state) = record { world = world; outcome = outcomes.Restarted }

-- a node joins, unless one of its id is there, and is told the session of the orchestrator's last number
abbrev pub joined_at : World → List ℕ → Option NodeState → Occurred
joined_at world id None = record { world = with_new_node (last_number world.history).session id world; outcome = outcomes.Joined }
joined_at world id (Some state) = record { world = world; outcome = outcomes.NodeThere }

-- a node that is lost is no more, unless the orchestrator refuses to give it up
abbrev pub lost_by : World → List ℕ → Result orchestrator.Moved OrchFault → Occurred
lost_by world id (Ok moved) = record { world = without_node id (with_history moved.items world); outcome = outcomes.Lost }
lost_by world id (Err fault) = record { world = world; outcome = outcomes.Refused fault }

-- the node is there, or in the orchestrator's list
abbrev pub is_node_of : World → List ℕ → Bool
is_node_of world id = is_some (node_state id world) || list_any (same_text id) (nodes_of world.history)

-- a node is lost, if there is one
abbrev pub lost : World → List ℕ → Occurred
lost world id =
    if is_node_of world id then lost_by world id (orchestrator.moves world.history (orchestrator.Loses id))
    else record { world = world; outcome = outcomes.NoSuchNode }

-- nothing is wanted of the volume of this name
abbrev pub is_at_rest : World → List ℕ → Bool
is_at_rest world name = is_none (goal_of world.history name)

-- a volume that is on its way to rest: the world, and how many events happened
pub record OnItsWay : Type 0 where
  pub world : World
  pub events : ℕ

-- after so many events, deliveries, at most so many, of the frame behind this place and then of each one behind that, until the volume is at
-- rest or there is no such frame
abbrev pub delivered_on : ℕ → OnItsWay → List ℕ → ℕ → OnItsWay
delivered_on zero way name place = way
delivered_on (suc more) way name place =
    if is_at_rest way.world name || is_none (frame_numbered way.world (suc place)) then way
    else delivered_on more (record { world = (delivered way.world (frame_numbered way.world (suc place))).world; events = way.events + 1 }) name (suc place)

-- a timeout, and then the deliveries of what is sent from there on, the oldest first, twelve at most
abbrev pub way_after_timeout : World → List ℕ → OnItsWay
way_after_timeout world name =
    let timed : Occurred = orchestrated world (orchestrator.TimesOut name) in
    delivered_on 12 (record { world = timed.world; events = 1 }) name (length world.frames)

-- what becomes of a volume that is settled; where nothing is wanted of it, or its name has no row, nothing happens
abbrev pub settling_way : World → List ℕ → OnItsWay
settling_way world name =
    if is_at_rest world name || not (has_row world.history name) then record { world = world; events = 0 } else way_after_timeout world name

-- what comes of that, by whether the volume is at rest then
abbrev pub settled_by : List ℕ → OnItsWay → Occurred
settled_by name way =
    record { world = way.world; outcome = if is_at_rest way.world name then outcomes.Settled way.events else outcomes.NotSettled way.events }

-- what comes of one event
abbrev pub occurs : World → Event → Occurred
occurs world (events.Create name required limit capabilities) =
    orchestrated world (orchestrator.ToCreate name (record { required = required; limit = limit; capabilities = capabilities }))
occurs world (events.Use name node target capability readonly) =
    orchestrated world (orchestrator.ToUse name (record { node = node; target = target; capability = capability; readonly = readonly }))
occurs world (events.Stop name node target) = orchestrated world (orchestrator.ToStop name node target)
occurs world (events.Delete name) = orchestrated world (orchestrator.ToDelete name)
occurs world (events.Timeout name) = orchestrated world (orchestrator.TimesOut name)
occurs world (events.Deliver number) = delivered world (frame_numbered world number)
occurs world events.RestartOrchestrator = orchestrated world (orchestrator.Restarts (nodes_of world.history))
occurs world (events.RestartOrchestratorWith nodes) = orchestrated world (orchestrator.Restarts nodes)
occurs world events.RestartController = record { world = world; outcome = outcomes.Restarted }
occurs world (events.RestartControllerWith config) = record { world = record world { config = config }; outcome = outcomes.Restarted }
occurs world (events.RestartNode node) = restarted_at world (node_state node world)
occurs world (events.Join node) = joined_at world node (node_state node world)
occurs world (events.Lose node) = lost world node
occurs world (events.Settle name) = settled_by name (settling_way world name)

-- the last world of a run, and what came of each event in turn
pub record Run : Type 0 where
  pub world : World
  pub outcomes : List Outcome

-- the run of these events from a world
abbrev pub after_from : World → List Event → Run
after_from world [] = record { world = world; outcomes = [] }
after_from world (event ∷ others) =
    let occurred : Occurred = occurs world event in
    let rest : Run = after_from occurred.world others in
    record { world = rest.world; outcomes = occurred.outcome ∷ rest.outcomes }

-- the run of these events from an empty world, whose controller has this configuration, and whose nodes are listed and there
abbrev pub after : Config → List Event → Run
after config events = after_from (empty_world config) events
