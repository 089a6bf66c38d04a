-- A world's orchestrator goes on as the lines that come to it lead its history.
use Rattle.std.proofs.Common.{◌≡◌, ◌∙◌, inl, inr, sym, ap, subst, refl, ℕ, List, [], ◌∷◌, ◌++◌, length, Bool, true, false, cond, ◌||◌, is_some}
use Rattle.std.proofs.lemmas.Bool.{ltb-true}
use Rattle.std.proofs.lemmas.List.{append_assoc}
use Rattle.std.specs.Prelude.{nat_lt, Option, Some, None, Result, Ok, Err}
use Rattle.std.specs.List.{AllByRecursion, list_any}
use Rattle.csi_types.specs.declared.call.Party.{Party}
use Rattle.csi_types.specs.declared.call.Party.TheVariants as parties
use Rattle.csi_types.specs.declared.event.Event.{Event}
use Rattle.csi_types.specs.declared.event.Event.TheVariants as events
use Rattle.csi_types.specs.declared.frame.Body.{Body}
use Rattle.csi_types.specs.declared.frame.Body.TheVariants as bodies
use Rattle.csi_types.specs.Model.Frame.{Frame}
use Rattle.csi_types.specs.Model.Same.{same_text}
use Rattle.csi_frames.specs.declared.fault.FrameFault.{FrameFault}
use Rattle.csi_frames.specs.Public.Spelling.{Spells}
use Rattle.csi_frames.proofs.Front.{first_frame-begins}
use Rattle.csi_orchestrator.specs.declared.fault.Heard.{Heard}
use Rattle.csi_orchestrator.specs.declared.fault.Heard.TheVariants as heards
use Rattle.csi_orchestrator.specs.declared.fault.OrchFault.{OrchFault}
use Rattle.csi_orchestrator.specs.Model.History.{History, Item, Started, with_items}
use Rattle.csi_orchestrator.specs.Model.Readings.{last_number, nodes_of}
use Rattle.csi_orchestrator.specs.Model.Moves.{Input, ToCreate, ToUse, ToStop, ToDelete, TimesOut, Comes, Restarts, Loses, Answer, Sends, Hears, Restarted, GivenUp, Moved, deliver, moves}
use Rattle.csi_orchestrator.specs.Public.Raised.{raised_history}
use Rattle.csi_world.specs.declared.outcomes.Outcome.TheVariants as outcomes
use Rattle.csi_world.specs.Model.World.{World, node_state, with_history}
use Rattle.csi_world.specs.Model.After.{Occurred, by_answer, by_result, orchestrated, called_at, called, delivered_body, delivered, frame_numbered, restarted_at, joined_at, lost_by, is_node_of, occurs, after_from}
use Rattle.csi_world.specs.Public.Step.{Choice, Starts, MayChooseAll, chosen_all}
use Rattle.csi_world.proofs.PluginsReached.{answered-history, joined-same}
use Rattle.csi_json.specs.declared.request_fault.RequestFault.{RequestFault}
use Rattle.csi_json.specs.Public.Requests.{RequestShown, Command, Reply, IsCommand, line_request}
use Rattle.csi_orchestration.specs.Public.LinesServing.{AnswersEach}
use Rattle.csi_orchestration.specs.Public.OrchestratorLines.{EventBy, ReplyBy, RequestBy}
use Rattle.csi_orchestration.specs.Public.OrchestratorHistories.{IsMoved, MovesFrame, moved_lines, MovesLine}
use Rattle.csi_orchestration.specs.Public.OrchestratorWorlds.{IsCallBody, DeliversReply, IsOfNode, ComesBy, AsksNothing, IsIdle, IsNoReply, IsElsewhere, Brings, MayCome, WorldsLaw}
use Rattle.csi_orchestration.proofs.OrchestratorResponding.{whole}

-- ---- the orchestrator's part

-- what is sent or told leaves the history
answer-history : (world : World) (answer : Answer) → (by_answer world answer).world.history ≡ world.history
answer-history world (Sends None) = refl
answer-history world (Sends (Some frame)) = refl
answer-history world (Hears heards.Ignored) = refl
answer-history world (Hears (heards.Taken None)) = refl
answer-history world (Hears (heards.Taken (Some frame))) = refl
answer-history world Restarted = refl
answer-history world GivenUp = refl

-- an input that is answered, or refused, leads the world's history where it leads
orchestrated-history : {A : Type 0} (told : A → Answer) (world : World) (input : Input) (result : Result A OrchFault) (next : History) → IsMoved told world.history input result next
    → (orchestrated world input).world.history ≡ next
orchestrated-history told world input (Ok answer) next is =
    ap (λ (r : Result Moved OrchFault). (by_result world r).world.history) is.1 ∙ answer-history (with_history is.0.items world) is.0.answer ∙ sym is.3
orchestrated-history told world input (Err fault) next is = ap (λ (r : Result Moved OrchFault). (by_result world r).world.history) is.0 ∙ sym is.1

-- ---- elsewhere

-- a call that is delivered leaves the orchestrator
call-history : (world : World) (frame : Frame) (party : Party) → (called world frame party).world.history ≡ world.history
call-history world frame parties.Controller = answered-history world frame
call-history world frame (parties.Node id) =
    elim (node_state id world) as (λ o. (called_at world frame o).world.history ≡ world.history) [ None ↦ refl | Some state ↦ answered-history world frame ]

-- a node that restarts, or joins, does too
restarted-history : (world : World) (id : List ℕ) → (restarted_at world (node_state id world)).world.history ≡ world.history
restarted-history world id = elim (node_state id world) as (λ o. (restarted_at world o).world.history ≡ world.history) [ None ↦ refl | Some state ↦ refl ]

joined-history : (world : World) (id : List ℕ) → (joined_at world id (node_state id world)).world.history ≡ world.history
joined-history world id = elim (node_state id world) as (λ o. (joined_at world id o).world.history ≡ world.history) [ None ↦ refl | Some state ↦ refl ]

-- what is no reply leaves it
no_reply-history : (world : World) (o : Option Frame) → IsNoReply o → (delivered world o).world.history ≡ world.history
no_reply-history world None is = refl
no_reply-history world (Some frame) is = by frame.body refl is
  where
    by : (body : Body) → frame.body ≡ body → IsCallBody body → (delivered_body world frame body).world.history ≡ world.history
    by (bodies.Call call) e is_call = call-history world frame frame.party
    by (bodies.Reply kind reply) e is_call = absurd is_call

-- an event of the plugins leaves it
elsewhere-history : (world : World) (event : Event) → IsElsewhere world event → (occurs world event).world.history ≡ world.history
elsewhere-history world (events.Create name required limit capabilities) is = absurd is
elsewhere-history world (events.Use name node target capability readonly) is = absurd is
elsewhere-history world (events.Stop name node target) is = absurd is
elsewhere-history world (events.Delete name) is = absurd is
elsewhere-history world (events.Timeout name) is = absurd is
elsewhere-history world (events.Deliver number) is = no_reply-history world (frame_numbered world number) is
elsewhere-history world events.RestartOrchestrator is = absurd is
elsewhere-history world (events.RestartOrchestratorWith nodes) is = absurd is
elsewhere-history world events.RestartController is = refl
elsewhere-history world (events.RestartControllerWith config) is = refl
elsewhere-history world (events.RestartNode node) is = restarted-history world node
elsewhere-history world (events.Join node) is = joined-history world node
elsewhere-history world (events.Lose node) is = absurd is
elsewhere-history world (events.Settle name) is = absurd is

-- ---- a line that asks something

-- bytes are at most one frame
one-frame : (bytes : List ℕ) (one other : Frame) → Spells one bytes → Spells other bytes → one ≡ other
one-frame bytes one other spelled also =
    let both : ◌≡◌ {A = Result (Frame × ℕ) FrameFault} (Ok (one, length bytes)) (Ok (other, length bytes)) =
    sym (first_frame-begins bytes one (length bytes) (whole bytes one spelled)) ∙ first_frame-begins bytes other (length bytes) (whole bytes other also) in
    ap (frame_in one) both
  where
    frame_in : Frame → Result (Frame × ℕ) FrameFault → Frame
    frame_in default (Ok read) = read.0
    frame_in default (Err fault) = default

-- what a loss does, of a node that is there or listed
lost-history : (world : World) (node : List ℕ) → is_node_of world node ≡ true → (told : Result (Unit {0}) OrchFault) (next : History)
    → IsMoved {A = Unit {0}} (λ done. GivenUp) world.history (Loses node) told next → (occurs world (events.Lose node)).world.history ≡ next
lost-history world node known (Ok done) next is =
    ap (λ (b : Bool). (lost_if b).world.history) known ∙ ap (λ (r : Result Moved OrchFault). (lost_by world node r).world.history) is.1 ∙ sym is.3
  where
    lost_if : Bool → Occurred
    lost_if b = cond b (lost_by world node (moves world.history (Loses node))) (record { world = world; outcome = outcomes.NoSuchNode })
lost-history world node known (Err fault) next is =
    ap (λ (b : Bool). (lost_if b).world.history) known ∙ ap (λ (r : Result Moved OrchFault). (lost_by world node r).world.history) is.0 ∙ sym is.1
  where
    lost_if : Bool → Occurred
    lost_if b = cond b (lost_by world node (moves world.history (Loses node))) (record { world = world; outcome = outcomes.NoSuchNode })

-- what a command, a timeout or a loss does
event-history : (world : World) (event : Event) (answer : List ℕ) (next : History) → IsCommand event → IsOfNode world event → EventBy moved_lines event world.history answer next
    → (occurs world event).world.history ≡ next
event-history world (events.Create name required limit capabilities) answer next is of m =
    orchestrated-history Sends world (ToCreate name (record { required = required; limit = limit; capabilities = capabilities })) m.told next m.moved
event-history world (events.Use name node target capability readonly) answer next is of m =
    orchestrated-history Sends world (ToUse name (record { node = node; target = target; capability = capability; readonly = readonly })) m.told next m.moved
event-history world (events.Stop name node target) answer next is of m = orchestrated-history Sends world (ToStop name node target) m.told next m.moved
event-history world (events.Delete name) answer next is of m = orchestrated-history Sends world (ToDelete name) m.told next m.moved
event-history world (events.Timeout name) answer next is of m = orchestrated-history Sends world (TimesOut name) m.told next m.moved
event-history world (events.Deliver number) answer next is of m = absurd is
event-history world events.RestartOrchestrator answer next is of m = absurd is
event-history world (events.RestartOrchestratorWith nodes) answer next is of m = absurd is
event-history world events.RestartController answer next is of m = absurd is
event-history world (events.RestartControllerWith config) answer next is of m = absurd is
event-history world (events.RestartNode node) answer next is of m = absurd is
event-history world (events.Join node) answer next is of m = absurd is
event-history world (events.Lose node) answer next is of m = lost-history world node of m.told next m.moved
event-history world (events.Settle name) answer next is of m = absurd is

-- what a reply does
reply-history : (world : World) (bytes : List ℕ) (event : Event) (answer : List ℕ) (next : History) → DeliversReply world bytes event → ReplyBy moved_lines bytes world.history answer next
    → (occurs world event).world.history ≡ next
reply-history world bytes event answer next d (inr m) = absurd (m.0 d.frame d.spelled)
reply-history world bytes event answer next d (inl m) =
    ap (λ (e : Event). (occurs world e).world.history) d.is ∙ ap (λ (o : Option Frame). (delivered world o).world.history) d.sent ∙ by d.frame.body refl d.reply
  where
    frame : Frame
    frame = d.frame

    same : m.0 ≡ frame
    same = one-frame bytes m.0 frame m.1 d.spelled

    comes : MovesFrame frame world.history answer next
    comes = subst (λ (f : Frame). MovesFrame f world.history answer next) same m.2

    by : (body : Body) → frame.body ≡ body → (IsCallBody body → ⊥) → (delivered_body world frame body).world.history ≡ next
    by (bodies.Call call) e not_call = absurd (not_call tt)
    by (bodies.Reply kind reply) e not_call = orchestrated-history Hears world (Comes frame) comes.heard next comes.moved

-- what is asked
asked-history : (world : World) (request : Result RequestShown RequestFault) (event : Event) (answer : List ℕ) (next : History) → ComesBy world request event
    → RequestBy moved_lines request world.history answer next → (occurs world event).world.history ≡ next
asked-history world (Ok (Command asked)) event answer next comes m = ap (λ (e : Event). (occurs world e).world.history) comes.2 ∙ event-history world asked answer next comes.0 comes.1 m
asked-history world (Ok (Reply bytes)) event answer next comes m = reply-history world bytes event answer next comes m
asked-history world (Err fault) event answer next comes m = absurd comes

-- ---- a line that asks nothing

-- a call that came as a reply is ignored
call-ignored : (frame : Frame) (history : History) (answer : List ℕ) (next : History) → IsCallBody frame.body → MovesFrame frame history answer next → next ≡ history
call-ignored frame history answer next is m = by_body frame.body refl is
  where
    quiet : Moved
    quiet = record { answer = Hears heards.Ignored; items = [] }

    items_in : Result Moved OrchFault → List Item
    items_in (Ok moved) = moved.items
    items_in (Err fault) = []

    by_answer_of : (heard : Result Heard OrchFault) → IsMoved Hears history (Comes frame) heard next → moves history (Comes frame) ≡ Ok quiet → next ≡ history
    by_answer_of (Ok what) is_moved e = is_moved.3 ∙ ap (with_items history) (ap items_in (sym is_moved.1 ∙ e))
    by_answer_of (Err fault) is_moved e = is_moved.1

    by_body : (body : Body) → frame.body ≡ body → IsCallBody body → next ≡ history
    by_body (bodies.Call call) e is_call = by_answer_of m.heard m.moved (ap (deliver history frame.number frame.party) e)
    by_body (bodies.Reply kind reply) e is_call = absurd is_call

-- an event that is none of the six is told as a fault
other-history : (event : Event) (history : History) (answer : List ℕ) (next : History) → (IsCommand event → ⊥) → EventBy moved_lines event history answer next → next ≡ history
other-history (events.Create name required limit capabilities) history answer next other m = absurd (other tt)
other-history (events.Use name node target capability readonly) history answer next other m = absurd (other tt)
other-history (events.Stop name node target) history answer next other m = absurd (other tt)
other-history (events.Delete name) history answer next other m = absurd (other tt)
other-history (events.Timeout name) history answer next other m = absurd (other tt)
other-history (events.Deliver number) history answer next other m = m.stays
other-history events.RestartOrchestrator history answer next other m = m.stays
other-history (events.RestartOrchestratorWith nodes) history answer next other m = m.stays
other-history events.RestartController history answer next other m = m.stays
other-history (events.RestartControllerWith config) history answer next other m = m.stays
other-history (events.RestartNode node) history answer next other m = m.stays
other-history (events.Join node) history answer next other m = m.stays
other-history (events.Lose node) history answer next other m = absurd (other tt)
other-history (events.Settle name) history answer next other m = m.stays

-- it leaves the history
nothing-history : (request : Result RequestShown RequestFault) (history : History) (answer : List ℕ) (next : History) → AsksNothing request → RequestBy moved_lines request history answer next → next ≡ history
nothing-history (Ok (Command asked)) history answer next quiet m = other-history asked history answer next quiet m
nothing-history (Ok (Reply bytes)) history answer next quiet (inl m) = call-ignored m.0 history answer next (quiet m.0 m.1) m.2
nothing-history (Ok (Reply bytes)) history answer next quiet (inr m) = m.1.stays
nothing-history (Err fault) history answer next quiet m = m.stays

-- such lines leave it
idle-history : (history : History) (lines given : List (List ℕ)) (next : History) → AllByRecursion IsIdle lines → AnswersEach MovesLine history lines given next → next ≡ history
idle-history history [] [] next quiet each = each
idle-history history [] (answer ∷ given) next quiet each = absurd each
idle-history history (line ∷ lines) [] next quiet each = absurd each
idle-history history (line ∷ lines) (answer ∷ given) next quiet each =
    idle-history each.0 lines given next quiet.1 each.2 ∙ nothing-history (line_request line) history answer each.0 quiet.0 each.1

-- ---- a run

-- the lines behind those that ask nothing
pub record Behind (history : History) (line : List ℕ) (rest : List (List ℕ)) (next : History) : Type 0 where
  pub answer : List ℕ
  pub after : History
  pub moved : MovesLine history line answer after
  pub given : List (List ℕ)
  pub each : AnswersEach MovesLine after rest given next

behind : (history : History) (idle : List (List ℕ)) (line : List ℕ) (rest given : List (List ℕ)) (next : History) → AllByRecursion IsIdle idle
    → AnswersEach MovesLine history (idle ++ line ∷ rest) given next → Behind history line rest next
behind history [] line rest [] next quiet each = absurd each
behind history [] line rest (answer ∷ given) next quiet each = record { answer = answer; after = each.0; moved = each.1; given = given; each = each.2 }
behind history (first ∷ idle) line rest [] next quiet each = absurd each
behind history (first ∷ idle) line rest (answer ∷ given) next quiet each =
    subst (λ (h : History). Behind h line rest next) (nothing-history (line_request first) history answer each.0 quiet.0 each.1) (behind each.0 idle line rest given next quiet.1 each.2)

-- event after event
run-history : (world : World) (others : List Event) (lines given : List (List ℕ)) (next : History) → Brings world others lines
    → AnswersEach MovesLine world.history lines given next → (after_from world others).world.history ≡ next
run-history world [] lines given next brings each = sym (idle-history world.history lines given next brings each)
run-history world (event ∷ others) lines given next (inl brings) each =
    run-history (occurs world event).world others lines given next brings.1
    (subst (λ (h : History). AnswersEach MovesLine h lines given next) (sym (elsewhere-history world event brings.0)) each)
run-history world (event ∷ others) lines given next (inr brings) each =
    let comes = brings.0 in
    let on = behind world.history comes.idle comes.line comes.rest given next comes.quiet (subst (λ (ls : List (List ℕ)). AnswersEach MovesLine world.history ls given next) comes.are each) in
    let moved = asked-history world (line_request comes.line) event on.answer on.after comes.comes on.moved in
    run-history (occurs world event).world others comes.rest on.given next brings.1 (subst (λ (h : History). AnswersEach MovesLine h comes.rest on.given next) (sym moved) on.each)

-- ---- lines that come about

-- what is so of all of two lists is so of both together
both-all : {X : Type 0} (P : X → Type 0) (xs ys : List X) → AllByRecursion P xs → AllByRecursion P ys → AllByRecursion P (xs ++ ys)
both-all P [] ys all also = also
both-all P (x ∷ xs) ys all also = (all.0, both-all P xs ys all.1 also)

-- lines that ask nothing may stand in front
idle-front : (world : World) (more : List Event) (idle rest : List (List ℕ)) → AllByRecursion IsIdle idle → Brings world more rest → Brings world more (idle ++ rest)
idle-front world [] idle rest quiet brings = both-all IsIdle idle rest quiet brings
idle-front world (event ∷ others) idle rest quiet (inl brings) = inl (brings.0, idle-front (occurs world event).world others idle rest quiet brings.1)
idle-front world (event ∷ others) idle rest quiet (inr brings) =
    let comes = brings.0 in
    inr (
      record {
        idle = idle ++ comes.idle;
        line = comes.line;
        rest = comes.rest;
        are = ap (λ (ls : List (List ℕ)). idle ++ ls) comes.are ∙ sym (append_assoc idle comes.idle (comes.line ∷ comes.rest));
        quiet = both-all IsIdle idle comes.idle quiet comes.quiet;
        comes = comes.comes;
      },
      brings.1,
    )

-- events behind events bring lines behind lines
joined-lines : (world : World) (others more : List Event) (lines rest : List (List ℕ)) → Brings world others lines → Brings (after_from world others).world more rest
    → Brings world (others ++ more) (lines ++ rest)
joined-lines world [] more lines rest brings also = idle-front world more lines rest brings also
joined-lines world (event ∷ others) more lines rest (inl brings) also = inl (brings.0, joined-lines (occurs world event).world others more lines rest brings.1 also)
joined-lines world (event ∷ others) more lines rest (inr brings) also =
    let comes = brings.0 in
    inr (
      record {
        idle = comes.idle;
        line = comes.line;
        rest = comes.rest ++ rest;
        are = ap (λ (ls : List (List ℕ)). ls ++ rest) comes.are ∙ append_assoc comes.idle (comes.line ∷ comes.rest) rest;
        quiet = comes.quiet;
        comes = comes.comes;
      },
      joined-lines (occurs world event).world others more comes.rest rest brings.1 also,
    )

-- a line comes about by one event
by-one : (world : World) (line : List ℕ) (event : Event) → ComesBy world (line_request line) event → Brings world (event ∷ []) (line ∷ [])
by-one world line event comes = inr (record { idle = []; line = line; rest = []; are = refl; quiet = tt; comes = comes }, tt)

-- a node that neither is there nor is listed is there once it joined
no-state : {X : Type 0} (o : Option X) (listed : Bool) → (is_some o || listed) ≡ false → o ≡ None
no-state None listed e = refl
no-state (Some state) listed e = absurd (cc)

joined-node : (world : World) (node : List ℕ) → is_node_of world node ≡ false → is_node_of (occurs world (events.Join node)).world node ≡ true
joined-node world node unknown =
    let none = no-state (node_state node world) (list_any (same_text node) (nodes_of world.history)) unknown in
    let session = (last_number world.history).session in
    ap (λ o. is_node_of (joined_at world node o).world node) none ∙ ap (λ o. is_some o || list_any (same_text node) (nodes_of world.history)) (joined-same session node world none)

-- a loss comes about, behind a join where it has to
lost-comes : (world : World) (line node : List ℕ) → line_request line ≡ Ok (Command (events.Lose node)) → (others : List Event) × Brings world others (line ∷ [])
lost-comes world line node asks = by (is_node_of world node) refl
  where
    comes : (here : World) → is_node_of here node ≡ true → Brings here (events.Lose node ∷ []) (line ∷ [])
    comes here known = by-one here line (events.Lose node) (subst (λ (request : Result RequestShown RequestFault). ComesBy here request (events.Lose node)) (sym asks) (tt, known, refl))

    by : (b : Bool) → is_node_of world node ≡ b → (others : List Event) × Brings world others (line ∷ [])
    by true known = (events.Lose node ∷ [], comes world known)
    by false unknown = (events.Join node ∷ events.Lose node ∷ [], inl (tt, comes (occurs world (events.Join node)).world (joined-node world node unknown)))

-- so does what is asked by a command, a timeout or a loss; what is none of these asks nothing
command-comes : (world : World) (line : List ℕ) (asked : Event) → line_request line ≡ Ok (Command asked) → (others : List Event) × Brings world others (line ∷ [])
command-comes world line asked asks = by asked asks
  where
    one : (event : Event) → line_request line ≡ Ok (Command event) → IsCommand event → IsOfNode world event → (others : List Event) × Brings world others (line ∷ [])
    one event is command node =
        (event ∷ [], by-one world line event (subst (λ (request : Result RequestShown RequestFault). ComesBy world request event) (sym is) (command, node, refl)))

    idle : (event : Event) → line_request line ≡ Ok (Command event) → (IsCommand event → ⊥) → (others : List Event) × Brings world others (line ∷ [])
    idle event is none = ([], (subst AsksNothing (sym is) none, tt))

    by : (event : Event) → line_request line ≡ Ok (Command event) → (others : List Event) × Brings world others (line ∷ [])
    by (events.Create name required limit capabilities) is = one (events.Create name required limit capabilities) is tt tt
    by (events.Use name node target capability readonly) is = one (events.Use name node target capability readonly) is tt tt
    by (events.Stop name node target) is = one (events.Stop name node target) is tt tt
    by (events.Delete name) is = one (events.Delete name) is tt tt
    by (events.Timeout name) is = one (events.Timeout name) is tt tt
    by (events.Deliver number) is = idle (events.Deliver number) is (λ none. absurd none)
    by events.RestartOrchestrator is = idle events.RestartOrchestrator is (λ none. absurd none)
    by (events.RestartOrchestratorWith nodes) is = idle (events.RestartOrchestratorWith nodes) is (λ none. absurd none)
    by events.RestartController is = idle events.RestartController is (λ none. absurd none)
    by (events.RestartControllerWith config) is = idle (events.RestartControllerWith config) is (λ none. absurd none)
    by (events.RestartNode node) is = idle (events.RestartNode node) is (λ none. absurd none)
    by (events.Join node) is = idle (events.Join node) is (λ none. absurd none)
    by (events.Lose node) is = lost-comes world line node is
    by (events.Settle name) is = idle (events.Settle name) is (λ none. absurd none)

-- and each line that may come
line-comes : (world : World) (line : List ℕ) → MayCome world (line_request line) → (others : List Event) × Brings world others (line ∷ [])
line-comes world line may = by (line_request line) refl may
  where
    idle : AsksNothing (line_request line) → (others : List Event) × Brings world others (line ∷ [])
    idle quiet = ([], (quiet, tt))

    by : (request : Result RequestShown RequestFault) → line_request line ≡ request → MayCome world request → (others : List Event) × Brings world others (line ∷ [])
    by (Ok (Command asked)) is may_come = command-comes world line asked is
    by (Ok (Reply bytes)) is (inl quiet) = idle (subst AsksNothing (sym is) quiet)
    by (Ok (Reply bytes)) is (inr sent) =
        let event = events.Deliver sent.number in (
          event ∷ [],
          by-one world line event
              (subst (λ (request : Result RequestShown RequestFault). ComesBy world request event) (sym is)
              (record { number = sent.number; frame = sent.frame; spelled = sent.spelled; reply = sent.reply; sent = sent.sent; is = refl })),
        )
    by (Err fault) is may_come = idle (subst AsksNothing (sym is) tt)

-- ---- a session that is raised

-- a later one may begin
raise-chosen : (world : World) (session : ℕ) → (choices : List Choice) × MayChooseAll world choices × ((chosen_all world choices).history ≡ raised_history session world.history)
raise-chosen world session = by (nat_lt (last_number world.history).session session) refl
  where
    by : (b : Bool) → nat_lt (last_number world.history).session session ≡ b
        → (choices : List Choice) × MayChooseAll world choices × ((chosen_all world choices).history ≡ cond b (with_items world.history (Started session (nodes_of world.history) ∷ [])) world.history)
    by true later = (Starts session (nodes_of world.history) ∷ [], (ltb-true (last_number world.history).session session later, tt), refl)
    by false not_later = ([], tt, refl)

-- ---- all of it

-- and where it restarts
pub world-goes : WorldsLaw
world-goes = record {
  lines = run-history;
  raise = raise-chosen;
  restart = λ world nodes next is. orchestrated-history {A = Unit {0}} (λ done. Restarted) world (Restarts nodes) (Ok tt) next is;
  each = line-comes;
  joined = joined-lines;
}
