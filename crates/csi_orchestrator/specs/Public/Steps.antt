-- What an orchestrator does, one thing after another: each call that it sends may be sent, each reply that it takes is
-- one to an open call. This profile's own; the guards are CSI's ("Volume Lifecycle").
use Rattle.std.specs.Prelude.{◌≡◌, ℕ, ◌+◌, ◌<◌, ◌≤◌, List, [], ◌∷◌, map, length, Option, Some, None, Result, Ok, Err}
use Rattle.csi_types.specs.declared.number.Number.{Number}
use Rattle.csi_types.specs.declared.reply.Reply.{Reply}
use Rattle.csi_types.specs.declared.status.Status.{Status}
use Rattle.csi_types.specs.Model.Call.{kind_of}
use Rattle.csi_types.specs.Model.Frame.{Frame}
use Rattle.csi_types.specs.Model.Replies.{call_frame, reply_frame}
use Rattle.csi_orchestrator.specs.declared.fault.Heard.TheVariants.{Ignored, Taken}
use Rattle.csi_orchestrator.specs.declared.fault.OrchFault.{OrchFault}
use Rattle.csi_orchestrator.specs.declared.thing.Known.TheVariants.{No}
use Rattle.csi_orchestrator.specs.declared.thing.Thing.TheVariants.{Exists}
use Rattle.csi_orchestrator.specs.Model.Thing.{Issued}
use Rattle.csi_orchestrator.specs.Model.History.{Item, Started, Lost, Forgotten, Sent, Accepted, Closed, Noted, History, history_after, with_items}
use Rattle.csi_orchestrator.specs.Model.Readings.{issued_in, known, goal_of, open_call, last_number, names_of}
use Rattle.csi_orchestrator.specs.Model.WellFormed.{IsNextNumber, IsOpen, IsUnused, IsWellFormed}
use Rattle.csi_orchestrator.specs.Model.Shown.{OrchestratorParts, Shows}
use Rattle.csi_orchestrator.specs.Public.Guards.{MayIssue}
use Rattle.csi_orchestrator.specs.Model.Moves.{Input, Comes, Restarts, Loses, Answer, Sends, Hears, Restarted, GivenUp, Moved, moves}
use Rattle.csi_orchestrator.specs.Public.Moves.{moved_to}
use Rattle.csi_orchestrator.specs.Public.Restored.{AreRestorable}

-- the history is one to which an orchestrator comes, from having done nothing, or from what was opened of a record: rows that keep the rules
-- of such rows, and whatever history they show
pub data IsReached : History → Type 0 where
  Begins : (nodes : List (List ℕ)) (last : Number) → IsReached (history_after nodes last)
  Opens : (parts : OrchestratorParts) (history : History) → AreRestorable parts.nodes parts.rows → IsWellFormed history → Shows parts history → IsReached history
  GoesOn : (history : History) (input : Input) → IsReached history → IsReached (moved_to history (moves history input))

-- a reply to an open call, which came
pub record IsReplyTo (history : History) (input : Input) (number : Number) (status : Status) (id : Option ℕ) : Type 0 where
  pub issued : Issued
  pub reply : Reply
  pub is_open : open_call history issued.name ≡ Some issued
  pub same_number : number ≡ issued.number
  pub same_status : status ≡ reply.status
  pub same_id : id ≡ reply.id
  pub came : input ≡ Comes (reply_frame issued.number issued.party (kind_of issued.call) reply)

-- a node is given up as lost where its loss came, once a session started
pub record MayLose (history : History) (input : Input) (node : List ℕ) : Type 0 where
  pub unused : IsUnused (last_number history)
  pub came : input ≡ Loses node

-- a name is forgotten whose volume isn't there and of which nothing is wanted, before anything is sent in the session
pub record MayForget (history : History) (name : List ℕ) : Type 0 where
  pub unused : IsUnused (last_number history)
  pub gone : known history (Exists name) ≡ No
  pub unwanted : goal_of history name ≡ None

-- one thing that may be done where this input came
abbrev pub MayDo : History → Input → Item → Type 0
MayDo history input (Started session nodes) = (last_number history).session < session
MayDo history input (Lost node) = MayLose history input node
MayDo history input (Forgotten name) = MayForget history name
MayDo history input (Sent issued) = IsNextNumber (last_number history) issued.number × MayIssue history issued.name issued.party issued.call
MayDo history input (Accepted number status id) = IsReplyTo history input number status id
MayDo history input (Closed number) = IsOpen history.items number
MayDo history input (Noted name goal) = Unit {0}

-- each of them may be done after those before it, the newest first
abbrev pub MayDoAll : History → Input → List Item → Type 0
MayDoAll history input [] = Unit {0}
MayDoAll history input (item ∷ older) = MayDo (with_items history older) input item × MayDoAll history input older

-- the frames of these calls, and those of an answer
abbrev pub frame_of : Issued → Frame
frame_of issued = call_frame issued.number issued.party issued.call

-- the frame, if there is one
abbrev pub frame_if_sent : Option Frame → List Frame
frame_if_sent None = []
frame_if_sent (Some frame) = frame ∷ []

-- the frames of an answer
abbrev pub frames_in : Answer → List Frame
frames_in (Sends frame) = frame_if_sent frame
frames_in (Hears Ignored) = []
frames_in (Hears (Taken frame)) = frame_if_sent frame
frames_in Restarted = []
frames_in GivenUp = []

-- how many things are done at most: three, and where a session begins two, and one for each name
abbrev pub most_items : History → Input → ℕ
most_items history (Restarts nodes) = 2 + length (names_of history)
most_items history (Loses node) = 2 + length (names_of history)
most_items history input = 3

-- few things are done, each may be, and the answer has the frame of the call that was sent, if one was
pub record IsStepwise (history : History) (input : Input) (moved : Moved) : Type 0 where
  pub may : MayDoAll history input moved.items
  pub few : length moved.items ≤ most_items history input
  pub frames : map frame_of (issued_in moved.items) ≡ frames_in moved.answer

-- so it is, unless the input is refused
abbrev pub AreStepwise : History → Input → Result Moved OrchFault → Type 0
AreStepwise history input (Ok moved) = IsStepwise history input moved
AreStepwise history input (Err fault) = Unit {0}

-- whatever came before, and whatever comes
abbrev pub MovesLaw : Type 0
MovesLaw = (history : History) (input : Input) → IsReached history → AreStepwise history input (moves history input)
