-- What an orchestrator answers to each input, and what it does then. This profile's own.
use Rattle.std.specs.Prelude.{ℕ, ◌+◌, ◌==◌, List, [], ◌∷◌, ◌++◌, map, filter, filter_map, find, Bool, true, false, not, ◌&&◌, Option, Some, None, is_none, if◌then◌else◌, Result, Ok, Err}
use Rattle.csi_types.specs.declared.number.Number.{Number}
use Rattle.csi_types.specs.declared.call.Call.{Call}
use Rattle.csi_types.specs.declared.call.Call.TheVariants as calls
use Rattle.csi_types.specs.declared.call.Kind.{Kind}
use Rattle.csi_types.specs.declared.call.Party.{Party}
use Rattle.csi_types.specs.declared.reply.Reply.{Reply}
use Rattle.csi_types.specs.declared.frame.Body.{Body}
use Rattle.csi_types.specs.declared.frame.Body.TheVariants as bodies
use Rattle.csi_types.specs.Model.Call.{kind_of}
use Rattle.csi_types.specs.Model.Frame.{Frame}
use Rattle.csi_types.specs.Model.Replies.{call_frame}
use Rattle.csi_types.specs.Model.Reply.{is_ok_status}
use Rattle.csi_types.specs.Model.Same.{same_text, same_number, same_party, same_kind}
use Rattle.csi_orchestrator.specs.declared.fault.Heard.{Heard}
use Rattle.csi_orchestrator.specs.declared.fault.Heard.TheVariants.{Ignored, Taken}
use Rattle.csi_orchestrator.specs.declared.fault.OrchFault.{OrchFault}
use Rattle.csi_orchestrator.specs.declared.fault.OrchFault.TheVariants.{NumbersSpent}
use Rattle.csi_orchestrator.specs.declared.thing.Thing.TheVariants.{Exists}
use Rattle.csi_orchestrator.specs.Model.Thing.{Issued, is_no}
use Rattle.csi_orchestrator.specs.Model.History.{Arguments, Usage, Goal, Create, Use, Stop, Delete, Item, Started, Lost, Forgotten, Sent, Accepted, Closed, Noted, History, with_items}
use Rattle.csi_orchestrator.specs.Model.Readings.{nodes_of, names_of, known, goal_of, open_call, tries, last_number, issued_in}
use Rattle.csi_orchestrator.specs.Model.Due.{Due, due_for, due_call}
use Rattle.csi_orchestrator.specs.Model.Commands.{next_number, create_fault, use_fault, use_room_fault, stop_fault, delete_fault, delete_busy_fault, timeout_fault, restart_fault, loss_fault}

-- a command, a timeout, a frame that comes, a restart with a list of nodes, or the loss of a node
pub data Input : Type 0 where
  ToCreate : (name : List ℕ) (arguments : Arguments) → Input
  ToUse : (name : List ℕ) (usage : Usage) → Input
  ToStop : (name : List ℕ) (node : List ℕ) (target : List ℕ) → Input
  ToDelete : (name : List ℕ) → Input
  TimesOut : (name : List ℕ) → Input
  Comes : (frame : Frame) → Input
  Restarts : (nodes : List (List ℕ)) → Input
  Loses : (node : List ℕ) → Input

-- a command's or timeout's frame to send, if there is one; what became of a frame that came; a restart; a loss
pub data Answer : Type 0 where
  Sends : (frame : Option Frame) → Answer
  Hears : (heard : Heard) → Answer
  Restarted : Answer
  GivenUp : Answer

-- the answer, and the items by which the history goes on, the newest first
pub record Moved : Type 0 where
  pub answer : Answer
  pub items : List Item

-- what is asked is so already
abbrev pub met_already : Moved
met_already = record { answer = Sends None; items = [] }

-- the due call is sent under this number; where none is due, the goal is dropped
abbrev pub sent_as : List ℕ → (Option Frame → Answer) → List Item → Option Due → Option Number → Result Moved OrchFault
sent_as name answer items None number = Ok (record { answer = answer None; items = Noted name None ∷ items })
sent_as name answer items (Some due) None = Err NumbersSpent
sent_as name answer items (Some due) (Some number) =
    let issued : Issued = record { name = name; number = number; party = due.party; call = due.call } in
    Ok (record { answer = answer (Some (call_frame number due.party due.call)); items = Sent issued ∷ items })

-- after these items the due call is sent; where none is due, what was wanted is met and dropped
abbrev pub send_due : History → List ℕ → (Option Frame → Answer) → List Item → Result Moved OrchFault
send_due history name answer items = sent_as name answer items (due_call (with_items history items) name) (next_number (last_number history))

-- unless it is refused, the goal is noted and its due call is sent
abbrev pub command : History → List ℕ → Goal → Option OrchFault → Result Moved OrchFault
command history name goal (Some fault) = Err fault
command history name goal None = send_due history name Sends (Noted name (Some goal) ∷ [])

-- a use, unless it is refused, or is so already
abbrev pub use_when : History → List ℕ → Usage → Option OrchFault → Result Moved OrchFault
use_when history name usage (Some fault) = Err fault
use_when history name usage None =
    if is_none (due_for history name (Some (Use usage))) then Ok met_already
    else command history name (Use usage) (use_room_fault history name usage)

-- a delete, unless it is refused, or is so already
abbrev pub delete_when : History → List ℕ → Option OrchFault → Result Moved OrchFault
delete_when history name (Some fault) = Err fault
delete_when history name None =
    if is_no (known history (Exists name)) then Ok met_already else command history name Delete (delete_busy_fault history name)

-- ControllerPublish, NodeStage and NodePublish, which lead to a use
abbrev pub is_forward : Call → Bool
is_forward (calls.CreateVolume name required limit capabilities) = false
is_forward (calls.DeleteVolume id) = false
is_forward (calls.ControllerPublishVolume id node capability readonly) = true
is_forward (calls.ControllerUnpublishVolume id node) = false
is_forward (calls.NodeStageVolume id capability) = true
is_forward (calls.NodeUnstageVolume id) = false
is_forward (calls.NodePublishVolume id target capability readonly) = true
is_forward (calls.NodeUnpublishVolume id target) = false

-- a forward call is due
abbrev pub is_forward_due : Option Due → Bool
is_forward_due None = false
is_forward_due (Some due) = is_forward due.call

-- a use that didn't come about is stopped
abbrev pub undoing_goal : Option Goal → Option Goal
undoing_goal (Some (Use usage)) = Some (Stop usage.node usage.target)
undoing_goal goal = None

-- the open call, if there is one, is given up
abbrev pub closing : Option Issued → List Item
closing None = []
closing (Some issued) = Closed issued.number ∷ []

-- the open call is given up; a forward call that was sent three times is not sent again
abbrev pub timeout : History → List ℕ → Option OrchFault → Result Moved OrchFault
timeout history name (Some fault) = Err fault
timeout history name None =
    if is_forward_due (due_call history name) && (tries history name == 3) then
    send_due history name Sends (Noted name (undoing_goal (goal_of history name)) ∷ closing (open_call history name))
    else send_due history name Sends (closing (open_call history name))

-- the open call has this number
abbrev pub is_number_open : Number → Option Issued → Bool
is_number_open number None = false
is_number_open number (Some issued) = same_number issued.number number

-- the open call with this number, party and kind
abbrev pub call_replied : History → Number → Party → Kind → Option Issued
call_replied history number party kind =
    find (λ issued. same_number issued.number number && same_party issued.party party && same_kind (kind_of issued.call) kind
    && is_number_open number (open_call history issued.name)) (issued_in history.items)

-- the answer to a reply that was taken
abbrev pub hears : Option Frame → Answer
hears frame = Hears (Taken frame)

-- a status other than OK, by the call that got it
abbrev pub heard_refusal : History → Issued → Item → Call → Result Moved OrchFault
heard_refusal history issued accepted (calls.CreateVolume name required limit capabilities) =
    Ok (record { answer = hears None; items = Noted issued.name None ∷ accepted ∷ [] })
heard_refusal history issued accepted call =
    if is_forward call then send_due history issued.name hears (Noted issued.name (undoing_goal (goal_of history issued.name)) ∷ accepted ∷ [])
    else Ok (record { answer = hears None; items = accepted ∷ [] })

-- a reply, and the open call that it is to, if there is one
abbrev pub heard : History → Reply → Option Issued → Result Moved OrchFault
heard history reply None = Ok (record { answer = Hears Ignored; items = [] })
heard history reply (Some issued) =
    let accepted : Item = Accepted issued.number reply.status reply.id in
    if is_ok_status reply.status then send_due history issued.name hears (accepted ∷ [])
    else heard_refusal history issued accepted issued.call

-- a frame that is no reply to an open call is ignored
abbrev pub deliver : History → Number → Party → Body → Result Moved OrchFault
deliver history number party (bodies.Call call) = Ok (record { answer = Hears Ignored; items = [] })
deliver history number party (bodies.Reply kind reply) = heard history reply (call_replied history number party kind)

-- where a session begins, a name is forgotten whose volume isn't there and of which nothing is wanted
abbrev pub is_forgotten : History → List ℕ → Bool
is_forgotten history name = is_no (known history (Exists name)) && is_none (goal_of history name)

-- each such name
abbrev pub forgetting : History → List Item
forgetting history = map Forgotten (filter (is_forgotten history) (names_of history))

-- a use at a node that is lost becomes its stop
abbrev pub stopping : List ℕ → List ℕ → Option Goal → Option Item
stopping node name (Some (Use usage)) = if same_text usage.node node then Some (Noted name (Some (Stop usage.node usage.target))) else None
stopping node name goal = None

-- each such use
abbrev pub stopping_all : History → List ℕ → List Item
stopping_all history node = filter_map (λ name. stopping node name (goal_of history name)) (names_of history)

-- a session that is one higher starts with this list of nodes; names are forgotten
abbrev pub restart : History → List (List ℕ) → Option OrchFault → Result Moved OrchFault
restart history nodes (Some fault) = Err fault
restart history nodes None = Ok (record { answer = Restarted; items = forgetting history ++ Started ((last_number history).session + 1) nodes ∷ [] })

-- the list without the node
abbrev pub without_node : List ℕ → List (List ℕ) → List (List ℕ)
without_node node nodes = filter (λ other. not (same_text other node)) nodes

-- a session that is one higher starts without the node, which is lost; its uses are stopped, and names are forgotten
abbrev pub lose : History → List ℕ → Option OrchFault → Result Moved OrchFault
lose history node (Some fault) = Err fault
lose history node None =
    Ok (record {
      answer = GivenUp;
      items = forgetting history ++ stopping_all history node ++ Lost node ∷ Started ((last_number history).session + 1) (without_node node (nodes_of history)) ∷ [];
    })

-- what an orchestrator does; a refusal does nothing
abbrev pub moves : History → Input → Result Moved OrchFault
moves history (ToCreate name arguments) = command history name (Create arguments) (create_fault history name)
moves history (ToUse name usage) = use_when history name usage (use_fault history name usage)
moves history (ToStop name node target) = command history name (Stop node target) (stop_fault history name node target)
moves history (ToDelete name) = delete_when history name (delete_fault history name)
moves history (TimesOut name) = timeout history name (timeout_fault history name)
moves history (Comes frame) = deliver history frame.number frame.party frame.body
moves history (Restarts nodes) = restart history nodes (restart_fault history nodes)
moves history (Loses node) = lose history node (loss_fault history)
