-- Whatever an orchestrator does, each name for which it does something has a row then.
use Rattle.csi_world.proofs.Words.{◌≡◌, ◌⊎◌, ℕ, zero, suc, ◌<◌, List, [], ◌∷◌, ◌++◌, length, map, filter, filter_map}
use Rattle.csi_world.proofs.Words.{Bool, true, false, cond, not, Option, Some, None, ◌&&◌, ◌==◌, Result, Ok, Err}
use Rattle.csi_world.proofs.Words.{slice_get, refl, sym, ◌∙◌, ap, subst, inl, inr, arith, append_assoc, ◌+◌, is_none}
use Rattle.csi_world.proofs.Words.{MAX_ROWS, Call, Kind, Party, Controller, Node, Event, Body, Number, Reply, Frame}
use Rattle.csi_world.proofs.Words.{is_ok_status, same_text, Exists, IsAmong, NodeState, OrchFault, Usage, Issued, Goal}
use Rattle.csi_world.proofs.Words.{Create, Use, Stop, Delete, Item, Started, Lost, Forgotten, Accepted, Noted, History}
use Rattle.csi_world.proofs.Words.{with_items, names_of, goal_of, open_call, tries, last_number, nodes_of, has_row}
use Rattle.csi_world.proofs.Words.{issued_in, is_forgetting, next_number, create_fault, use_fault, use_room_fault}
use Rattle.csi_world.proofs.Words.{stop_fault, delete_fault, timeout_fault, restart_fault, loss_fault, Due, due_for}
use Rattle.csi_world.proofs.Words.{due_call, Input, ToCreate, ToUse, ToStop, ToDelete, TimesOut, Comes, Restarts}
use Rattle.csi_world.proofs.Words.{Answer, Moved, met_already, moves, send_due, sent_as, command, use_when}
use Rattle.csi_world.proofs.Words.{delete_when, is_forward_due, undoing_goal, closing, timeout, is_number_open}
use Rattle.csi_world.proofs.Words.{call_replied, hears, heard, heard_refusal, deliver, is_forgotten, forgetting}
use Rattle.csi_world.proofs.Words.{stopping, stopping_all, restart, lose, IsWellFormed, moved_to, MayDoAll}
use Rattle.csi_world.proofs.Words.{AreStepwise, World, node_state, answered_by_plugin, Occurred, orchestrated}
use Rattle.csi_world.proofs.Words.{called_at, called, delivered_body, delivered, restarted_at, joined_at, lost_by}
use Rattle.csi_world.proofs.Words.{is_node_of, occurs}
use Rattle.csi_world.proofs.Lemmas.{and_parts, false≢true, nat_tests, same_text-tells, find-passes, then-any, open-sent}
use Rattle.csi_types.specs.declared.call.Call.TheVariants as calls
use Rattle.csi_types.specs.declared.event.Event.TheVariants as events
use Rattle.csi_types.specs.declared.frame.Body.TheVariants as bodies
use Rattle.csi_orchestrator.specs.declared.fault.OrchFault.TheVariants as faults
use Rattle.csi_orchestrator.specs.Model.Moves.{Loses, Sends, without_node}
use Rattle.csi_orchestrator.proofs.SinceItems.{forgets-break, open-since}
use Rattle.csi_world.specs.declared.outcomes.Outcome.TheVariants as outcomes
use Rattle.csi_world.proofs.Lifetimes.{calls_since, lifetime-is}
use Rattle.csi_world.proofs.NamesRowed.{AreRowed, IsFit, AreFit, items-rowed, noted-row}
use Rattle.csi_world.proofs.PluginsReached.{answered-history}

-- a text is the same as itself
self : (text : List ℕ) → same_text text text ≡ true
self text = (same_text-tells text text).1 refl

-- each name that was noted has a row
own-row : (history : History) (name : List ℕ) (goal : Option Goal) → has_row (with_items history (Noted name goal ∷ [])) name ≡ true
own-row history name goal = noted-row history name name goal ∙ ap (λ b. cond b true (has_row history name)) (self name)

-- so it is of what a move adds, unless it is refused
abbrev AllFit : History → Result Moved OrchFault → Type 0
AllFit history (Ok moved) = AreFit history moved.items
AllFit history (Err fault) = Unit {0}

-- the due call of a name that has a row
sent-fit : (history : History) (name : List ℕ) (answer : Option Frame → Answer) (items : List Item) → AreFit history items → has_row (with_items history items) name ≡ true → AllFit history (send_due history name answer items)
sent-fit history name answer items fit row = by (due_call (with_items history items) name) (next_number (last_number history))
  where
    by : (due : Option Due) (number : Option Number) → AllFit history (sent_as name answer items due number)
    by None number = (inl row, fit)
    by (Some due) None = tt
    by (Some due) (Some number) = (row, fit)

-- a command, of a name that has a row, or may have one
command-fit : (history : History) (name : List ℕ) (goal : Goal) (fault : Option OrchFault) → (fault ≡ None → IsFit history (Noted name (Some goal))) → AllFit history (command history name goal fault)
command-fit history name goal (Some fault) fit = tt
command-fit history name goal None fit = sent-fit history name Sends (Noted name (Some goal) ∷ []) (fit refl, tt) (own-row history name (Some goal))

-- a fault that is told first where there is no row
row-first : (row : Bool) (fault : OrchFault) (others : Option OrchFault) → cond (not row) (Some fault) others ≡ None → row ≡ true
row-first row fault others e = grind arith

-- a create
create-fits : (history : History) (name : List ℕ) → create_fault history name ≡ None → (has_row history name ≡ true) ⊎ (length (names_of history) < MAX_ROWS)
create-fits history name e = grind (arith, nat_tests)

-- a use
use-fit : (history : History) (name : List ℕ) (usage : Usage) (fault : Option OrchFault) → use_fault history name usage ≡ fault → AllFit history (use_when history name usage fault)
use-fit history name usage (Some fault) e = tt
use-fit history name usage None e = by (is_none (due_for history name (Some (Use usage))))
  where
    by : (b : Bool) → AllFit history (cond b (Ok met_already) (command history name (Use usage) (use_room_fault history name usage)))
    by true = tt
    by false = command-fit history name (Use usage) (use_room_fault history name usage) (λ free. inl (row-first (has_row history name) faults.NoSuchVolume _ e))

-- a delete
delete-fit : (history : History) (name : List ℕ) (fault : Option OrchFault) → delete_fault history name ≡ fault → AllFit history (delete_when history name fault)
delete-fit history name fault e = grind (arith, command-fit, row-first)

-- giving up a call
closing-fit : (history : History) (call : Option Issued) → AreFit history (closing call)
closing-fit history None = tt
closing-fit history (Some issued) = (tt, tt)

closing-row : (history : History) (call : Option Issued) (name : List ℕ) → has_row history name ≡ true → has_row (with_items history (closing call)) name ≡ true
closing-row history None name row = row
closing-row history (Some issued) name row = row

-- a timeout
timeout-fit : (history : History) (name : List ℕ) (fault : Option OrchFault) → timeout_fault history name ≡ fault → AllFit history (timeout history name fault)
timeout-fit history name (Some fault) e = tt
timeout-fit history name None e = by (is_forward_due (due_call history name) && (tries history name == 3))
  where
    row : has_row history name ≡ true
    row = row-first (has_row history name) faults.NoSuchVolume _ e

    ended : List Item
    ended = closing (open_call history name)

    stops : Item
    stops = Noted name (undoing_goal (goal_of history name))

    by : (b : Bool) → AllFit history (cond b (send_due history name Sends (stops ∷ ended)) (send_due history name Sends ended))
    by true =
        sent-fit history name Sends (stops ∷ ended) (inl (closing-row history (open_call history name) name row), closing-fit history (open_call history name))
        (own-row (with_items history ended) name (undoing_goal (goal_of history name)))
    by false = sent-fit history name Sends ended (closing-fit history (open_call history name)) (closing-row history (open_call history name) name row)

-- an open call is of a name that has a row
open-rowed : (history : History) (name : List ℕ) (call : Issued) → IsWellFormed history → AreRowed history → open_call history name ≡ Some call → has_row history name ≡ true
open-rowed history name call form rowed e =
    let same : call.name ≡ name = (same_text-tells call.name name).0 (open-sent name history.items call e).1 in
    let here : IsAmong call (calls_since (Exists name) history.items)
    = subst (λ (xs : List Item). IsAmong call (issued_in xs)) (lifetime-is name history.items) (open-since (is_forgetting name) (forgets-break name) history.began name history.items call form e) in
    ap (has_row history) (sym same) ∙ rowed.called call (subst (λ n. IsAmong call (calls_since (Exists n) history.items)) (sym same) here)

-- so is one that is replied to
number-open : (number : Number) (o : Option Issued) → is_number_open number o ≡ true → (call : Issued) × (o ≡ Some call)
number-open number None h = absurd (false≢true h)
number-open number (Some call) h = (call, refl)

replied-rowed : (history : History) (number : Number) (party : Party) (kind : Kind) (issued : Issued) → IsWellFormed history → AreRowed history → call_replied history number party kind ≡ Some issued → has_row history issued.name ≡ true
replied-rowed history number party kind issued form rowed e = grind (arith, find-passes, and_parts, number-open, open-rowed)

-- a reply
heard-fit : (history : History) (reply : Reply) (o : Option Issued) → ((issued : Issued) → o ≡ Some issued → has_row history issued.name ≡ true) → AllFit history (heard history reply o)
heard-fit history reply None row = tt
heard-fit history reply (Some issued) row = by (is_ok_status reply.status)
  where
    accepted : Item
    accepted = Accepted issued.number reply.status reply.id

    own : has_row history issued.name ≡ true
    own = row issued refl

    stops : Item
    stops = Noted issued.name (undoing_goal (goal_of history issued.name))

    undone : (b : Bool) → AllFit history (cond b (send_due history issued.name hears (stops ∷ accepted ∷ [])) (Ok (record { answer = hears None; items = accepted ∷ [] })))
    undone true = sent-fit history issued.name hears (stops ∷ accepted ∷ []) (inl own, (tt, tt)) (own-row (with_items history (accepted ∷ [])) issued.name (undoing_goal (goal_of history issued.name)))
    undone false = (tt, tt)

    refused : (call : Call) → AllFit history (heard_refusal history issued accepted call)
    refused (calls.CreateVolume name required limit capabilities) = (inl own, (tt, tt))
    refused (calls.ControllerPublishVolume id node capability readonly) = undone true
    refused (calls.NodeStageVolume id capability) = undone true
    refused (calls.NodePublishVolume id target capability readonly) = undone true
    refused call = undone false

    by : (b : Bool) → AllFit history (cond b (send_due history issued.name hears (accepted ∷ [])) (heard_refusal history issued accepted issued.call))
    by true = sent-fit history issued.name hears (accepted ∷ []) (tt, tt) own
    by false = refused issued.call

-- a frame
deliver-fit : (history : History) (number : Number) (party : Party) (body : Body) → IsWellFormed history → AreRowed history → AllFit history (deliver history number party body)
deliver-fit history number party (bodies.Call call) form rowed = tt
deliver-fit history number party (bodies.Reply kind reply) form rowed =
    heard-fit history reply (call_replied history number party kind) (λ issued e. replied-rowed history number party kind issued form rowed e)

-- ---- where a session begins

-- what may be done of names that are forgotten makes them fit
forgetting-fit : (history : History) (input : Input) (names : List (List ℕ)) (older : List Item) → MayDoAll history input (map Forgotten names ++ older) → AreFit history older → AreFit history (map Forgotten names ++ older)
forgetting-fit history input [] older may fit = fit
forgetting-fit history input (name ∷ names) older may fit = ((may.0.gone, may.0.unwanted), forgetting-fit history input names older may.1 fit)

-- uses that are stopped, of these names
abbrev stops_of : History → List ℕ → List (List ℕ) → List Item
stops_of history node names = filter_map (λ name. stopping node name (goal_of history name)) names

-- these items, and then others, are fit, and names keep their rows by them
abbrev KeepRows : History → List Item → List Item → Type 0
KeepRows history first items = AreFit history (items ++ first) × ((name : List ℕ) → has_row (with_items history first) name ≡ true → has_row (with_items history (items ++ first)) name ≡ true)

-- so does one more that is noted, of a name that had a row
noted-keeps : (history : History) (first items : List Item) (name : List ℕ) (goal : Option Goal) → has_row (with_items history first) name ≡ true → KeepRows history first items → KeepRows history first (Noted name goal ∷ items)
noted-keeps history first items name goal row kept = grind (arith, noted-row)

-- names keep their rows where uses are stopped
stopping-fit : (history : History) (node : List ℕ) (first : List Item) (names : List (List ℕ)) → ((name : List ℕ) → IsAmong name names → has_row (with_items history first) name ≡ true) → AreFit history first
    → KeepRows history first (stops_of history node names)
stopping-fit history node first [] rows fit = (fit, λ name row. row)
stopping-fit history node first (name ∷ names) rows fit = grind (arith, noted-keeps, (stopping-fit history node first names (λ other among. rows other (inr among)) fit))

-- a name among those that have rows has one
among-row : (history : History) (name : List ℕ) → IsAmong name (names_of history) → has_row history name ≡ true
among-row history name among = then-any (same_text name) (names_of history) name among (self name)

-- whatever comes
moves-fit : (history : History) (input : Input) → IsWellFormed history → AreRowed history → AreStepwise history input (moves history input) → AllFit history (moves history input)
moves-fit history (ToCreate name arguments) form rowed steps = command-fit history name (Create arguments) (create_fault history name) (λ e. create-fits history name e)
moves-fit history (ToUse name usage) form rowed steps = use-fit history name usage (use_fault history name usage) refl
moves-fit history (ToStop name node target) form rowed steps = command-fit history name (Stop node target) (stop_fault history name node target) (λ e. inl (row-first (has_row history name) faults.NoSuchVolume _ e))
moves-fit history (ToDelete name) form rowed steps = delete-fit history name (delete_fault history name) refl
moves-fit history (TimesOut name) form rowed steps = timeout-fit history name (timeout_fault history name) refl
moves-fit history (Comes frame) form rowed steps = deliver-fit history frame.number frame.party frame.body form rowed
moves-fit history (Restarts nodes) form rowed steps = by (restart_fault history nodes) steps
  where
    by : (fault : Option OrchFault) → AreStepwise history (Restarts nodes) (restart history nodes fault) → AllFit history (restart history nodes fault)
    by (Some fault) steps = tt
    by None steps = forgetting-fit history (Restarts nodes) (filter (is_forgotten history) (names_of history)) (Started ((last_number history).session + 1) nodes ∷ []) steps.may (tt, tt)
moves-fit history (Loses node) form rowed steps = by (loss_fault history) steps
  where
    first : List Item
    first = Lost node ∷ Started ((last_number history).session + 1) (without_node node (nodes_of history)) ∷ []

    by : (fault : Option OrchFault) → AreStepwise history (Loses node) (lose history node fault) → AllFit history (lose history node fault)
    by (Some fault) steps = tt
    by None steps =
        subst (AreFit history) (sym (append_assoc (forgetting history) (stopping_all history node) first))
        (forgetting-fit history (Loses node) (filter (is_forgotten history) (names_of history)) (stopping_all history node ++ first) (subst (MayDoAll history (Loses node)) (append_assoc (forgetting history) (stopping_all history node) first) steps.may)
        (stopping-fit history node first (names_of history) (λ name among. among-row history name among) (tt, (tt, tt))).0)

-- so the names keep their rows
pub moved-rowed : (history : History) (input : Input) → IsWellFormed history → AreRowed history → AreStepwise history input (moves history input) → AreRowed (moved_to history (moves history input))
moved-rowed history input form rowed steps = by (moves history input) (moves-fit history input form rowed steps)
  where
    by : (result : Result Moved OrchFault) → AllFit history result → AreRowed (moved_to history result)
    by (Ok moved) fit = items-rowed history moved.items fit rowed
    by (Err fault) fit = rowed

-- ---- events

-- what comes of an event leaves the orchestrator's history, or is a move
pub data IsMoved (world : World) : History → Type 0 where
  stays : IsMoved world world.history
  goes : (input : Input) → IsMoved world (moved_to world.history (moves world.history input))

-- the history after an input
input-moved : (world : World) (input : Input) → (orchestrated world input).world.history ≡ moved_to world.history (moves world.history input)
input-moved world input = grind arith

-- so of each input
by-input : (world : World) (input : Input) → IsMoved world (orchestrated world input).world.history
by-input world input = subst (IsMoved world) (sym (input-moved world input)) (goes input)

-- a call that comes
call-moved : (world : World) (frame : Frame) (party : Party) → IsMoved world (called world frame party).world.history
call-moved world frame party = by party
  where
    answered : IsMoved world (answered_by_plugin world frame).history
    answered = subst (IsMoved world) (sym (answered-history world frame)) stays

    at : (o : Option NodeState) → IsMoved world (called_at world frame o).world.history
    at None = stays
    at (Some state) = answered

    by : (party : Party) → IsMoved world (called world frame party).world.history
    by Controller = answered
    by (Node id) = at (node_state id world)

-- the event settles nothing
abbrev pub IsPlain : Event → Type 0
IsPlain (events.Settle name) = ⊥
IsPlain event = Unit {0}

-- each such event
pub event-moved : (world : World) (event : Event) → IsPlain event → IsMoved world (occurs world event).world.history
event-moved world (events.Create name required limit capabilities) plain = by-input world (ToCreate name _)
event-moved world (events.Use name node target capability readonly) plain = by-input world (ToUse name _)
event-moved world (events.Stop name node target) plain = by-input world (ToStop name node target)
event-moved world (events.Delete name) plain = by-input world (ToDelete name)
event-moved world (events.Timeout name) plain = by-input world (TimesOut name)
event-moved world (events.Deliver zero) plain = stays
event-moved world (events.Deliver (suc place)) plain = by (slice_get world.frames place)
  where
    body_moved : (frame : Frame) (body : Body) → IsMoved world (delivered_body world frame body).world.history
    body_moved frame (bodies.Call call) = call-moved world frame frame.party
    body_moved frame (bodies.Reply kind reply) = by-input world (Comes frame)

    by : (o : Option Frame) → IsMoved world (delivered world o).world.history
    by None = stays
    by (Some frame) = body_moved frame frame.body
event-moved world events.RestartOrchestrator plain = by-input world (Restarts (nodes_of world.history))
event-moved world (events.RestartOrchestratorWith nodes) plain = by-input world (Restarts nodes)
event-moved world events.RestartController plain = stays
event-moved world (events.RestartControllerWith config) plain = stays
event-moved world (events.RestartNode node) plain = by (node_state node world)
  where
    by : (o : Option NodeState) → IsMoved world (restarted_at world o).world.history
    by None = stays
    by (Some state) = stays
event-moved world (events.Join node) plain = by (node_state node world)
  where
    by : (o : Option NodeState) → IsMoved world (joined_at world node o).world.history
    by None = stays
    by (Some state) = stays
event-moved world (events.Lose node) plain = by (is_node_of world node)
  where
    at : (result : Result Moved OrchFault) → (lost_by world node result).world.history ≡ moved_to world.history result
    at (Ok moved) = refl
    at (Err fault) = refl

    by : (b : Bool) → IsMoved world (cond b (lost_by world node (moves world.history (Loses node))) (let o : Occurred = record { world = world; outcome = outcomes.NoSuchNode } in o)).world.history
    by true = subst (IsMoved world) (sym (at (moves world.history (Loses node)))) (goes (Loses node))
    by false = stays
event-moved world (events.Settle name) plain = absurd plain
