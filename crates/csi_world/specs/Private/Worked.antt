-- Worked runs of events, which the checker computes.
use Rattle.std.specs.Prelude.{◌≡◌, ℕ, List, [], ◌∷◌, ◌++◌, length, slice_get, true, false, Some, None, codes}
use Rattle.csi_types.specs.declared.number.Number.{Number}
use Rattle.csi_types.specs.declared.mode.Mode.TheVariants.{SingleNodeWriter}
use Rattle.csi_types.specs.declared.capability.Capability.{Capability}
use Rattle.csi_types.specs.declared.capability.Access.TheVariants.{Block}
use Rattle.csi_types.specs.declared.call.Call.TheVariants as calls
use Rattle.csi_types.specs.declared.call.Kind.TheVariants as kinds
use Rattle.csi_types.specs.declared.call.Party.TheVariants.{Controller, Node}
use Rattle.csi_types.specs.Model.Config.{Config}
use Rattle.csi_types.specs.Model.Replies.{ok_reply, ok_reply_with, stale_reply, call_frame, reply_frame}
use Rattle.csi_orchestrator.specs.declared.fault.OrchFault.TheVariants.{HeldElsewhere, InUse, NodeInUse}
use Rattle.csi_orchestrator.specs.declared.thing.Thing.{Thing}
use Rattle.csi_orchestrator.specs.declared.thing.Thing.TheVariants as things
use Rattle.csi_orchestrator.specs.declared.thing.Known.{Known}
use Rattle.csi_orchestrator.specs.declared.thing.Known.TheVariants.{Yes, Maybe}
use Rattle.csi_orchestrator.specs.Model.Readings.{goal_of, known, last_number}
use Rattle.csi_types.specs.declared.event.Event.{Event}
use Rattle.csi_types.specs.declared.event.Event.TheVariants.{Create, Use, Stop, Delete, Timeout, Deliver, RestartOrchestrator, RestartOrchestratorWith, RestartControllerWith, Join, Lose}
use Rattle.csi_world.specs.declared.outcomes.Outcome.{Outcome}
use Rattle.csi_world.specs.declared.outcomes.Outcome.TheVariants.{Sent, Refused, Answered, Taken, Ignored, NoSuchFrame, NoSuchNode, Restarted, Joined, NodeThere, Lost}
use Rattle.csi_world.specs.Model.World.{World, empty_world}
use Rattle.csi_world.specs.Model.Safe.{IsExclusive, IsStagedWhereAttached, IsPublishedWhereStaged, IsAttachedWhileLive, IsRecordedRight, is_true_in}
use Rattle.csi_world.specs.Model.After.{after}
use Rattle.csi_world.specs.Public.Settling.{settling, settled}
use Rattle.csi_world.specs.Private.Laws.{IsMadeOfSteps}

-- greatest 1,000, and node n1 with 4 slots
abbrev pub config : Config
config = record { greatest = 1000; nodes = (record { id = codes "n1"; slots = 4 }) ∷ [] }

-- the name of a volume
abbrev pub v : List ℕ
v = codes "v"

-- the node's id
abbrev pub n1 : List ℕ
n1 = codes "n1"

-- a target path
abbrev pub a : List ℕ
a = codes "/a"

-- block access in the mode of a single node's writer
abbrev pub block : Capability
block = record { access = Block; mode = SingleNodeWriter }

-- a call's number
abbrev pub number : ℕ → ℕ → Number
number session call = record { session = session; call = call }

-- the four things that a use of v brings about
abbrev pub made : Thing
made = things.Exists v

-- v is attached to n1
abbrev pub attached : Thing
attached = things.Attached v n1

-- v is staged there
abbrev pub staged : Thing
staged = things.Staged v n1

-- v is published at /a there
abbrev pub published : Thing
published = things.Published v n1 a

-- v is to be used at /a of n1
abbrev pub use_v : Event
use_v = Use v n1 a block false

-- v is made, and its publish at n1 is sent as frame 3
abbrev pub attaching : List Event
attaching = Create v 10 0 (block ∷ []) ∷ Deliver 1 ∷ Deliver 2 ∷ use_v ∷ []

-- then NodeStage is sent as frame 5
abbrev pub staging : List Event
staging = attaching ++ Deliver 3 ∷ Deliver 4 ∷ []

-- then NodePublish is sent as frame 7, and answered
abbrev pub publishing : List Event
publishing = staging ++ Deliver 5 ∷ Deliver 6 ∷ Deliver 7 ∷ []

-- and the answer is heard
abbrev pub using : List Event
using = publishing ++ Deliver 8 ∷ []

-- what came of these events
abbrev pub outcomes_of : List Event → List Outcome
outcomes_of events = (after config events).outcomes

-- the world after these events
abbrev pub world_of : List Event → World
world_of events = (after config events).world

-- what is known of a thing after these events
abbrev pub known_after : List Event → Thing → Known
known_after events thing = known (world_of events).history thing

-- what comes of the events up to the call that stages v
abbrev pub staging_outcomes : List Outcome
staging_outcomes = Sent 1 ∷ Answered 2 ∷ Taken None ∷ Sent 3 ∷ Answered 4 ∷ Taken (Some 5) ∷ []

-- what comes of those up to the end of the use
abbrev pub using_outcomes : List Outcome
using_outcomes = staging_outcomes ++ Answered 6 ∷ Taken (Some 7) ∷ Answered 8 ∷ Taken None ∷ []

-- eight frames lead from nothing to a published volume
pub record WorkedUse : Type 0 where
  pub outcomes : outcomes_of using ≡ using_outcomes
  pub frames : length (world_of using).frames ≡ 8
  pub made_known : known_after using made ≡ Yes
  pub attached_known : known_after using attached ≡ Yes
  pub staged_known : known_after using staged ≡ Yes
  pub published_known : known_after using published ≡ Yes

-- what safety says of that world, clause by clause, the last one of the four things
pub record UseIsSafe : Type 0 where
  pub exclusive : IsExclusive (world_of using)
  pub staged_where_attached : IsStagedWhereAttached (world_of using)
  pub published_where_staged : IsPublishedWhereStaged (world_of using)
  pub attached_while_live : IsAttachedWhileLive (world_of using)
  pub made_right : IsRecordedRight (world_of using) made
  pub attached_right : IsRecordedRight (world_of using) attached
  pub staged_right : IsRecordedRight (world_of using) staged
  pub published_right : IsRecordedRight (world_of using) published

-- the run is made of steps: each call that it sends is guarded, and each reply that it takes was sent
abbrev pub UseIsMadeOfSteps : Type 0
UseIsMadeOfSteps = IsMadeOfSteps config using

-- a staging is given up and undone, and comes late
abbrev pub late_stage : List Event
late_stage = staging ++ Timeout v ∷ Timeout v ∷ Timeout v ∷ Deliver 8 ∷ Deliver 9 ∷ Deliver 5 ∷ []

-- so it is: nothing is staged by the call that comes late
pub record WorkedLateStage : Type 0 where
  pub outcomes : outcomes_of late_stage ≡ staging_outcomes ++ Sent 6 ∷ Sent 7 ∷ Sent 8 ∷ Answered 9 ∷ Taken (Some 10) ∷ Answered 11 ∷ []
  pub undo : slice_get (world_of late_stage).frames 7 ≡ Some (call_frame (number 1 6) (Node n1) (calls.NodeUnstageVolume 1))
  pub detach : slice_get (world_of late_stage).frames 9 ≡ Some (call_frame (number 1 7) Controller (calls.ControllerUnpublishVolume 1 n1))
  pub stale : slice_get (world_of late_stage).frames 10 ≡ Some (reply_frame (number 1 3) (Node n1) kinds.NodeStageVolume stale_reply)
  pub not_staged : is_true_in (world_of late_stage) staged ≡ false

-- a detach is given up and sent again, the volume is attached again, and the first detach comes late
abbrev pub late_detach : List Event
late_detach =
    using ++ Stop v n1 a ∷ Deliver 9 ∷ Deliver 10 ∷ Deliver 11 ∷ Deliver 12 ∷ Timeout v ∷ Deliver 14 ∷ Deliver 15
    ∷ use_v ∷ Deliver 16 ∷ Deliver 17 ∷ Deliver 18 ∷ Deliver 19 ∷ Deliver 13 ∷ []

-- so it is: the volume stays attached
pub record WorkedLateDetach : Type 0 where
  pub outcomes : outcomes_of late_detach
      ≡ using_outcomes ++ Sent 9 ∷ Answered 10 ∷ Taken (Some 11) ∷ Answered 12 ∷ Taken (Some 13) ∷ Sent 14 ∷ Answered 15 ∷ Taken None
      ∷ Sent 16 ∷ Answered 17 ∷ Taken (Some 18) ∷ Answered 19 ∷ Taken (Some 20) ∷ Answered 21 ∷ []
  pub late : slice_get (world_of late_detach).frames 12 ≡ Some (call_frame (number 1 7) Controller (calls.ControllerUnpublishVolume 1 n1))
  pub stale : slice_get (world_of late_detach).frames 20 ≡ Some (reply_frame (number 1 7) Controller kinds.ControllerUnpublishVolume stale_reply)
  pub still_attached : is_true_in (world_of late_detach) attached ≡ true
  pub known_attached : known_after late_detach attached ≡ Yes

-- a publish was done, but its reply waits, and the publish is given up and sent again: the reply is ignored
abbrev pub late_reply : List Event
late_reply = publishing ++ Timeout v ∷ Deliver 8 ∷ []

-- so it is: whether v is published isn't known
pub record WorkedLateReply : Type 0 where
  pub outcomes : outcomes_of late_reply ≡ staging_outcomes ++ Answered 6 ∷ Taken (Some 7) ∷ Answered 8 ∷ Sent 9 ∷ Ignored ∷ []
  pub maybe_published : known_after late_reply published ≡ Maybe

-- an attach was done, and the orchestrator restarts before it hears of it
abbrev pub restarted : List Event
restarted = attaching ++ Deliver 3 ∷ RestartOrchestrator ∷ Timeout v ∷ Deliver 4 ∷ Deliver 5 ∷ []

-- so it is: the reply is ignored, and the attach is sent again
pub record WorkedRestart : Type 0 where
  pub outcomes : outcomes_of restarted ≡ Sent 1 ∷ Answered 2 ∷ Taken None ∷ Sent 3 ∷ Answered 4 ∷ Restarted ∷ Sent 5 ∷ Ignored ∷ Answered 6 ∷ []
  pub session : last_number (world_of (attaching ++ Deliver 3 ∷ RestartOrchestrator ∷ [])).history ≡ number 2 0
  pub maybe_attached : known_after (attaching ++ Deliver 3 ∷ RestartOrchestrator ∷ []) attached ≡ Maybe
  pub again : slice_get (world_of restarted).frames 4 ≡ Some (call_frame (number 2 1) Controller (calls.ControllerPublishVolume 1 n1 block false))
  pub done : slice_get (world_of restarted).frames 5 ≡ Some (reply_frame (number 2 1) Controller kinds.ControllerPublishVolume ok_reply)

-- an attach is given up and undone, and then the volume can be deleted
abbrev pub undone : List Event
undone = attaching ++ Delete v ∷ Timeout v ∷ Timeout v ∷ Timeout v ∷ Deliver 6 ∷ Deliver 7 ∷ Delete v ∷ []

-- so it is: the delete is sent once the attach is undone
pub record WorkedUndone : Type 0 where
  pub outcomes : outcomes_of undone
      ≡ Sent 1 ∷ Answered 2 ∷ Taken None ∷ Sent 3 ∷ Refused InUse ∷ Sent 4 ∷ Sent 5 ∷ Sent 6 ∷ Answered 7 ∷ Taken None ∷ Sent 8 ∷ []
  pub undo : slice_get (world_of undone).frames 5 ≡ Some (call_frame (number 1 5) Controller (calls.ControllerUnpublishVolume 1 n1))
  pub delete : slice_get (world_of undone).frames 7 ≡ Some (call_frame (number 1 6) Controller (calls.DeleteVolume 1))

-- two nodes
abbrev pub two_nodes : Config
two_nodes = record { greatest = 1000; nodes = (record { id = codes "n1"; slots = 4 }) ∷ (record { id = codes "n2"; slots = 4 }) ∷ [] }

-- the other node's id
abbrev pub n2 : List ℕ
n2 = codes "n2"

-- v is to be used at /a of n2
abbrev pub use_at_n2 : Event
use_at_n2 = Use v n2 a block false

-- n1 dies with v published there; once it is lost v is detached and used at n2, and n1 joins again, where a NodePublish comes that was under
-- way all the time
abbrev pub lost_node : List Event
lost_node =
    using ++ use_at_n2 ∷ Lose n1 ∷ use_at_n2 ∷ Stop v n1 a ∷ Deliver 9 ∷ Deliver 10 ∷ use_at_n2 ∷ Deliver 11 ∷ Deliver 12 ∷ Deliver 13 ∷ Deliver 14
    ∷ Deliver 15 ∷ Deliver 16 ∷ Join n1 ∷ Deliver 7 ∷ []

-- the world after these events, where there are two nodes
abbrev pub two_world : List Event → World
two_world events = (after two_nodes events).world

-- so it is: v is detached by force, and used at n2; at the new n1 the call is stale
pub record WorkedLostNode : Type 0 where
  pub outcomes : (after two_nodes lost_node).outcomes
      ≡ using_outcomes ++ Refused HeldElsewhere ∷ Lost ∷ Refused HeldElsewhere ∷ Sent 9 ∷ Answered 10 ∷ Taken None ∷ Sent 11 ∷ Answered 12 ∷ Taken (Some 13) ∷ Answered 14
      ∷ Taken (Some 15) ∷ Answered 16 ∷ Taken None ∷ Joined ∷ Answered 17 ∷ []
  pub detach : slice_get (two_world lost_node).frames 8 ≡ Some (call_frame (number 2 1) Controller (calls.ControllerUnpublishVolume 1 n1))
  pub attach : slice_get (two_world lost_node).frames 10 ≡ Some (call_frame (number 2 2) Controller (calls.ControllerPublishVolume 1 n2 block false))
  pub late : slice_get (two_world lost_node).frames 6 ≡ Some (call_frame (number 1 4) (Node n1) (calls.NodePublishVolume 1 a block false))
  pub stale : slice_get (two_world lost_node).frames 16 ≡ Some (reply_frame (number 1 4) (Node n1) kinds.NodePublishVolume stale_reply)
  pub not_there : is_true_in (two_world lost_node) published ≡ false
  pub elsewhere : is_true_in (two_world lost_node) (things.Published v n2 a) ≡ true

-- v is deleted, and made again once its name was forgotten
abbrev pub made_again : List Event
made_again = Create v 10 0 (block ∷ []) ∷ Deliver 1 ∷ Deliver 2 ∷ Delete v ∷ Deliver 3 ∷ Deliver 4 ∷ RestartOrchestrator ∷ Create v 20 0 (block ∷ []) ∷ Deliver 5 ∷ Deliver 6 ∷ Deliver 1 ∷ []

-- so it is: the volume has another id, and the first call that comes late is stale
pub record WorkedMadeAgain : Type 0 where
  pub outcomes : outcomes_of made_again
      ≡ Sent 1 ∷ Answered 2 ∷ Taken None ∷ Sent 3 ∷ Answered 4 ∷ Taken None ∷ Restarted ∷ Sent 5 ∷ Answered 6 ∷ Taken None ∷ Answered 7 ∷ []
  pub again : slice_get (world_of made_again).frames 5 ≡ Some (reply_frame (number 2 1) Controller kinds.CreateVolume (ok_reply_with 2))
  pub stale : slice_get (world_of made_again).frames 6 ≡ Some (reply_frame (number 1 1) Controller kinds.CreateVolume stale_reply)

-- no node
abbrev pub no_nodes : Config
no_nodes = record { greatest = 1000; nodes = [] }

-- a node that is there doesn't join, one that is nowhere isn't lost, and a node that is in use can't be left out of the list
abbrev pub refused_changes : List Event
refused_changes = using ++ Join n1 ∷ Lose n2 ∷ RestartOrchestratorWith [] ∷ RestartControllerWith no_nodes ∷ []

-- so it is: what is attached stays so, also where the controller has no node any more
pub record WorkedRefusedChanges : Type 0 where
  pub outcomes : outcomes_of refused_changes ≡ using_outcomes ++ NodeThere ∷ NoSuchNode ∷ Refused NodeInUse ∷ Restarted ∷ []
  pub still_attached : is_true_in (world_of refused_changes) attached ≡ true

-- v is to be used at a target that is no path from the root
abbrev pub badly : List Event
badly = Create v 10 0 (block ∷ []) ∷ Deliver 1 ∷ Deliver 2 ∷ Use v n1 (codes "a") block false ∷ []

-- so it is: an attach that nobody heard of is sent again, and what follows comes about; the node refuses the bad target, and all is undone by
-- thirteen events; and of what is used nothing is wanted
pub record WorkedSettling : Type 0 where
  pub used : settling (world_of attaching) v ≡ Timeout v ∷ Deliver 4 ∷ Deliver 5 ∷ Deliver 6 ∷ Deliver 7 ∷ Deliver 8 ∷ Deliver 9 ∷ []
  pub published_known : known (settled (world_of attaching) v).history published ≡ Yes
  pub thirteen : length (settling (world_of badly) v) ≡ 13
  pub unwanted : goal_of (settled (world_of badly) v).history v ≡ None
  pub not_attached : is_true_in (settled (world_of badly) v) attached ≡ false
  pub nothing : settling (world_of using) v ≡ []

-- a frame that isn't there changes nothing, nor does a run of no events
pub record WorkedNothing : Type 0 where
  pub no_frame : after no_nodes (Deliver 99 ∷ []) ≡ record { world = empty_world no_nodes; outcomes = NoSuchFrame ∷ [] }
  pub no_event : after no_nodes [] ≡ record { world = empty_world no_nodes; outcomes = [] }
