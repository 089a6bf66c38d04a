-- Why the run of any list of events is made of steps.
use Rattle.csi_world.proofs.Words.{◌≡◌, ◌+◌, ◌≤◌, ℕ, zero, suc, List, [], ◌∷◌, ◌++◌, length, map, filter_map, reverse}
use Rattle.csi_world.proofs.Words.{Bool, true, false, cond, Option, Some, None, not, ◌||◌, Result, Ok, Err, slice_get}
use Rattle.csi_world.proofs.Words.{refl, sym, ◌∙◌, ap, subst, arith, length-append, append_assoc, append-nil}
use Rattle.csi_world.proofs.Words.{AllByRecursion, is_none, Party, Controller, Node, Body, Frame, IsAmong, NodeState}
use Rattle.csi_world.proofs.Words.{OrchFault, Create, Use, Stop, Delete, Item, Started, Lost, Forgotten, Sent}
use Rattle.csi_world.proofs.Words.{Accepted, Closed, Noted, History, with_items, issued_by, issued_in, last_number}
use Rattle.csi_world.proofs.Words.{nodes_of, names_of, goal_of, has_row, loss_fault, Event, World, node_id}
use Rattle.csi_world.proofs.Words.{empty_world, node_state, without_node, with_history, Choice, Sends, Closes, Takes}
use Rattle.csi_world.proofs.Words.{Notes, Starts, Forgets, Answers, Joins, Loses, Configures, chosen, MayChooseAll}
use Rattle.csi_world.proofs.Words.{chosen_all, frame_of, answered_by_plugin, Occurred, OnItsWay, by_answer, by_result}
use Rattle.csi_world.proofs.Words.{orchestrated, called_at, called, delivered_body, delivered, frame_numbered}
use Rattle.csi_world.proofs.Words.{joined_at, lost_by, is_node_of, lost, delivered_on, way_after_timeout, settled_by}
use Rattle.csi_world.proofs.Words.{settling_way, occurs, after_from}
use Rattle.csi_world.proofs.Lemmas.{none-some, reverse-append, filter_map-append, each-append, among-append}
use Rattle.csi_types.specs.declared.frame.Body.TheVariants as bodies
use Rattle.csi_orchestrator.specs.declared.fault.Heard.TheVariants as heard
use Rattle.csi_orchestrator.specs.Model.Moves as orchestrator
use Rattle.csi_orchestrator.specs.Public.Moves as public_orchestrator
use Rattle.csi_orchestrator.specs.Public.Steps as stepwise
use Rattle.csi_types.specs.declared.event.Event.TheVariants as events
use Rattle.csi_world.specs.declared.outcomes.Outcome.TheVariants as outcomes
use Rattle.csi_world.specs.Model.After.{is_at_rest}
use Rattle.csi_world.specs.Private.Laws.{most_steps, most_steps_from, RunsAreSteps}
use Rattle.csi_world.proofs.HeardReplies.{among-get}
use Rattle.csi_world.proofs.PluginsReached.{answered-history}

-- choices one after another
pub all-append : (world : World) (xs ys : List Choice) → MayChooseAll world xs → MayChooseAll (chosen_all world xs) ys → MayChooseAll world (xs ++ ys)
all-append world [] ys f g = g
all-append world (x ∷ xs) ys f g = (f.0, all-append (chosen world x) xs ys f.1 g)

-- the world after choices and then others is the one to which the others lead from the first ones' world
pub chosen-append : (world : World) (xs ys : List Choice) → chosen_all world (xs ++ ys) ≡ chosen_all (chosen_all world xs) ys
chosen-append world [] ys = refl
chosen-append world (x ∷ xs) ys = chosen-append (chosen world x) xs ys

-- a world comes of another by so many steps, or fewer
pub record Comes (old new : World) (count : ℕ) : Type 0 where
  pub choices : List Choice
  pub may : MayChooseAll old choices
  pub few : length choices ≤ count
  pub same_world : chosen_all old choices ≡ new

-- a world that stays comes so, by no step
stays : (world : World) (count : ℕ) → Comes world world count
stays world count = record { choices = []; may = tt; few = omega arith; same_world = refl }

-- by a step and a step
comes-then : (first next last : World) (m n count : ℕ) → m + n ≤ count → Comes first next m → Comes next last n → Comes first last count
comes-then first next last m n count within a b =
    record {
      choices = a.choices ++ b.choices;
      may = all-append first a.choices b.choices a.may (subst (λ w. MayChooseAll w b.choices) (sym a.same_world) b.may);
      few = let joined = length-append a.choices b.choices in omega (arith, joined, a.few, b.few, within);
      same_world = chosen-append first a.choices b.choices ∙ ap (λ w. chosen_all w b.choices) a.same_world ∙ b.same_world;
    }

-- the world after items, the newest first, with the frames that they send
abbrev world-after : World → List Item → World
world-after world items = record world { frames = world.frames ++ reverse (map frame_of (issued_in items)); history = with_items world.history items }

-- a frame that comes was sent
abbrev CameFrom : List Frame → orchestrator.Input → Type 0
CameFrom frames (orchestrator.Comes frame) = IsAmong frame frames
CameFrom frames input = Unit {0}

-- the item is no loss
abbrev IsNoLoss : Item → Type 0
IsNoLoss item = (node : List ℕ) → item ≡ Lost node → ⊥

-- an item that may be done, and is no loss, is the step of a choice
one-item : (world : World) (input : orchestrator.Input) (item : Item) (older : List Item) → CameFrom world.frames input → IsNoLoss item → stepwise.MayDo (with_items world.history older) input item
    → Comes (world-after world older) (world-after world (item ∷ older)) 1
one-item world input (Started session nodes) older came plain may = record { choices = Starts session nodes ∷ []; may = (may, tt); few = omega arith; same_world = refl }
one-item world input (Lost node) older came plain may = absurd (plain node refl)
one-item world input (Forgotten name) older came plain may = record { choices = Forgets name ∷ []; may = (may, tt); few = omega arith; same_world = refl }
one-item world input (Sent issued) older came plain may =
    let earlier : List Frame = map frame_of (issued_in older) in
    let sent = append_assoc world.frames (reverse earlier) (frame_of issued ∷ []) ∙ ap (λ fs. world.frames ++ fs) (sym (reverse-append (frame_of issued ∷ []) earlier)) in
    record {
      choices = Sends issued ∷ [];
      may = (record { numbered = may.0; allowed = may.1 }, tt);
      few = omega arith;
      same_world = ap (λ fs. record (with_history (Sent issued ∷ older) world) { frames = fs }) sent;
    }
one-item world input (Accepted number status id) older came plain may =
    record {
      choices = Takes may.issued may.reply ∷ [];
      may = (record { is_open = may.is_open; was_sent = among-append world.frames _ _ (subst (CameFrom world.frames) may.came came) }, tt);
      few = omega arith;
      same_world = λ i. world-after world (Accepted (sym may.same_number i) (sym may.same_status i) (sym may.same_id i) ∷ older);
    }
one-item world input (Closed number) older came plain may = record { choices = Closes number ∷ []; may = (may, tt); few = omega arith; same_world = refl }
one-item world input (Noted name goal) older came plain may = record { choices = Notes name goal ∷ []; may = (tt, tt); few = omega arith; same_world = refl }

-- so are many, one after another
items-come : (world : World) (input : orchestrator.Input) (items : List Item) → CameFrom world.frames input → AllByRecursion IsNoLoss items → stepwise.MayDoAll world.history input items
    → Comes world (world-after world items) (length items)
items-come world input [] came plain may = record { choices = []; may = tt; few = omega arith; same_world = λ i. record world { frames = sym (append-nil world.frames) i } }
items-come world input (item ∷ older) came plain may =
    comes-then world (world-after world older) (world-after world (item ∷ older)) (length older) 1 (suc (length older)) (omega arith)
    (items-come world input older came plain.1 may.1) (one-item world input item older came plain.0 may.0)

-- none of what is done is a loss, where none came
none-lost : (history : History) (input : orchestrator.Input) (items : List Item) → ((node : List ℕ) → input ≡ orchestrator.Loses node → ⊥) → stepwise.MayDoAll history input items → AllByRecursion IsNoLoss items
none-lost history input [] other may = tt
none-lost history input (item ∷ older) other may = grind (arith, (none-lost history input older other may.1))

-- the world with the frames of the calls is the one after the answer that has them
answer-frames : (world : World) (answer : orchestrator.Answer) → record world { frames = world.frames ++ reverse (stepwise.frames_in answer) } ≡ (by_answer world answer).world
answer-frames world (orchestrator.Sends (Some frame)) = refl
answer-frames world (orchestrator.Hears (heard.Taken (Some frame))) = refl
answer-frames world answer = λ i. record world { frames = append-nil world.frames i }

-- a world that comes of another by so many steps at most, and whose orchestrator came to its history
pub record Stepped (old new : World) (count : ℕ) : Type 0 where
  pub comes : Comes old new count
  pub reached : stepwise.IsReached new.history

-- the orchestrator moves
moved : (world : World) (input : orchestrator.Input) → CameFrom world.frames input → ((node : List ℕ) → input ≡ orchestrator.Loses node → ⊥) → stepwise.IsReached world.history
    → (result : Result orchestrator.Moved OrchFault) → orchestrator.moves world.history input ≡ result → stepwise.AreStepwise world.history input result
    → Stepped world (by_result world result).world (stepwise.most_items world.history input)
moved world input came other reached (Err fault) e steps = record { comes = stays world (stepwise.most_items world.history input); reached = reached }
moved world input came other reached (Ok done) e steps =
    let comes = items-come world input done.items came (none-lost world.history input done.items other steps.may) steps.may in
    let sent : world-after world done.items ≡ (by_answer (with_history done.items world) done.answer).world
    = ap (λ fs. record (with_history done.items world) { frames = world.frames ++ reverse fs }) steps.frames ∙ answer-frames (with_history done.items world) done.answer
    in
    record {
      comes = record { choices = comes.choices; may = comes.may; few = omega (arith, comes.few, steps.few); same_world = comes.same_world ∙ sent };
      reached = subst stepwise.IsReached (ap (public_orchestrator.moved_to world.history) e ∙ ap (λ (w : World). w.history) sent) (stepwise.GoesOn world.history input reached);
    }

-- the world after an input of the orchestrator comes so
orchestrates : (world : World) (input : orchestrator.Input) → stepwise.MovesLaw → CameFrom world.frames input → ((node : List ℕ) → input ≡ orchestrator.Loses node → ⊥) → stepwise.IsReached world.history
    → Stepped world (orchestrated world input).world (stepwise.most_items world.history input)
orchestrates world input law came other reached = moved world input came other reached (orchestrator.moves world.history input) refl (law world.history input reached)

-- ---- losses

-- what is done after other things may be done after them
may-split : (history : History) (input : orchestrator.Input) (items older : List Item) → stepwise.MayDoAll history input (items ++ older) → stepwise.MayDoAll (with_items history older) input items × stepwise.MayDoAll history input older
may-split history input [] older may = (tt, may)
may-split history input (item ∷ items) older may =
    let rest = may-split history input items older may.1 in
    ((subst (λ (xs : List Item). stepwise.MayDo (record history { items = xs }) input item) (append_assoc items older history.items) may.0, rest.0), rest.1)

-- forgotten names are no losses
forgetting-plain : (names : List (List ℕ)) → AllByRecursion IsNoLoss (map Forgotten names)
forgetting-plain [] = tt
forgetting-plain (name ∷ names) = ((λ node e. clash node e), forgetting-plain names)
  where
    clash : (node : List ℕ) → Forgotten name ≡ Lost node → ⊥
    clash node e = cc

-- nor are goals that are noted
stopping-plain : (node : List ℕ) (history : History) (names : List (List ℕ)) → AllByRecursion IsNoLoss (filter_map (λ name. orchestrator.stopping node name (goal_of history name)) names)
stopping-plain node history [] = tt
stopping-plain node history (name ∷ names) = grind (arith, none-some, (stopping-plain node history names))

-- a node is lost, and the orchestrator goes on as it does then
loses : (world : World) (node : List ℕ) (fault : Option OrchFault) → loss_fault world.history ≡ fault → stepwise.IsReached world.history → stepwise.AreStepwise world.history (orchestrator.Loses node) (orchestrator.lose world.history node fault)
    → Stepped world (lost_by world node (orchestrator.lose world.history node fault)).world (2 + length (names_of world.history))
loses world node (Some fault) e reached steps = record { comes = stays world (2 + length (names_of world.history)); reached = reached }
loses world node None e reached steps =
    record {
      comes = comes-then world base (lost_by world node (orchestrator.lose world.history node None)).world 1 (length news) (2 + length (names_of world.history)) (within (length-append news began) steps.few)
          (record { choices = Loses node session nodes ∷ []; may = (parts.1.1.0, tt); few = omega arith; same_world = refl })
          (record { choices = after.choices; may = after.may; few = after.few; same_world = after.same_world ∙ last });
      reached = subst (λ (o : Option OrchFault). stepwise.IsReached (public_orchestrator.moved_to world.history (orchestrator.lose world.history node o))) e (stepwise.GoesOn world.history (orchestrator.Loses node) reached);
    }
  where
    session : ℕ
    session = (last_number world.history).session + 1

    nodes : List (List ℕ)
    nodes = orchestrator.without_node node (nodes_of world.history)

    began : List Item
    began = Lost node ∷ Started session nodes ∷ []

    forgets : List Item
    forgets = orchestrator.forgetting world.history

    stops : List Item
    stops = orchestrator.stopping_all world.history node

    news : List Item
    news = forgets ++ stops

    base : World
    base = without_node node (with_history began world)

    within : length (news ++ began) ≡ length news + length began → length (news ++ began) ≤ 2 + length (names_of world.history) → 1 + length news ≤ 2 + length (names_of world.history)
    within joined few = omega (arith, joined, few)

    parts : stepwise.MayDoAll (with_items world.history began) (orchestrator.Loses node) news × stepwise.MayDoAll world.history (orchestrator.Loses node) began
    parts = may-split world.history (orchestrator.Loses node) news began steps.may

    plain : AllByRecursion IsNoLoss news
    plain = each-append IsNoLoss forgets stops (forgetting-plain _) (stopping-plain node world.history (names_of world.history))

    after : Comes base (world-after base news) (length news)
    after = items-come base (orchestrator.Loses node) news tt plain parts.0

    -- nothing is sent
    silent : map frame_of (issued_in news) ≡ []
    silent =
        ap (map frame_of) (sym (append-nil (issued_in news)) ∙ sym (filter_map-append issued_by news began)) ∙ steps.frames

    last : world-after base news ≡ (lost_by world node (orchestrator.lose world.history node None)).world
    last =
        ap (λ (fs : List Frame). record base { frames = world.frames ++ reverse fs; history = with_items base.history news }) silent
        ∙ ap (λ (fs : List Frame). record base { frames = fs; history = with_items base.history news }) (append-nil world.frames)
        ∙ ap (λ (xs : List Item). record base { history = record world.history { items = xs } }) (sym (append_assoc news began world.history.items))

-- ---- events

-- so does the world after a call came, to a plugin that is there or not
calls : (world : World) (frame : Frame) → IsAmong frame world.frames → stepwise.IsReached world.history → (party : Party) → Stepped world (called world frame party).world 3
calls world frame among reached party = by party
  where
    answers : Stepped world (answered_by_plugin world frame) 3
    answers =
        record {
          comes = record { choices = Answers frame ∷ []; may = (among, tt); few = omega arith; same_world = refl };
          reached = subst stepwise.IsReached (sym (answered-history world frame)) reached;
        }

    at : (o : Option NodeState) → Stepped world (called_at world frame o).world 3
    at (Some state) = answers
    at None = record { comes = stays world 3; reached = reached }

    by : (party : Party) → Stepped world (called world frame party).world 3
    by Controller = answers
    by (Node id) = at (node_state id world)

-- no input but a loss is one
abbrev IsOther : orchestrator.Input → Type 0
IsOther input = (node : List ℕ) → input ≡ orchestrator.Loses node → ⊥

-- the world after a timeout comes so
times-out : (world : World) (name : List ℕ) → stepwise.MovesLaw → stepwise.IsReached world.history → Stepped world (orchestrated world (orchestrator.TimesOut name)).world 3
times-out world name law reached = orchestrates world (orchestrator.TimesOut name) law tt other reached
  where
    other : IsOther (orchestrator.TimesOut name)
    other node e = cc

-- and that after a delivery
delivers : (world : World) (number : ℕ) → stepwise.MovesLaw → stepwise.IsReached world.history → Stepped world (delivered world (frame_numbered world number)).world 3
delivers world zero law reached = record { comes = stays world 3; reached = reached }
delivers world (suc place) law reached = by (slice_get world.frames place) (among-get world.frames place)
  where
    comes_other : (frame : Frame) → IsOther (orchestrator.Comes frame)
    comes_other frame node e = cc

    of_body : (frame : Frame) → IsAmong frame world.frames → (body : Body) → Stepped world (delivered_body world frame body).world 3
    of_body frame among (bodies.Call call) = calls world frame among reached frame.party
    of_body frame among (bodies.Reply kind reply) = orchestrates world (orchestrator.Comes frame) law among (comes_other frame) reached

    by : (o : Option Frame) → ((frame : Frame) → o ≡ Some frame → IsAmong frame world.frames) → Stepped world (delivered world o).world 3
    by None among = record { comes = stays world 3; reached = reached }
    by (Some frame) among = of_body frame (among frame refl) frame.body

-- ---- what settles a volume

-- one after another
stepped-then : (first next last : World) (m n : ℕ) → Stepped first next m → Stepped next last n → Stepped first last (m + n)
stepped-then first next last m n a b = record { comes = comes-then first next last m n (m + n) (omega arith) a.comes b.comes; reached = b.reached }

-- three for each
abbrev threes : ℕ → ℕ
threes zero = 0
threes (suc more) = 3 + threes more

-- the world after deliveries
delivers-on : (more : ℕ) (way : OnItsWay) (name : List ℕ) (place : ℕ) → stepwise.MovesLaw → stepwise.IsReached way.world.history → Stepped way.world (delivered_on more way name place).world (threes more)
delivers-on zero way name place law reached = record { comes = stays way.world 0; reached = reached }
delivers-on (suc more) way name place law reached =
    by (is_at_rest way.world name || is_none (frame_numbered way.world (suc place))) (delivers-on more next name (suc place) law first.reached)
  where
    next : OnItsWay
    next = record { world = (delivered way.world (frame_numbered way.world (suc place))).world; events = way.events + 1 }

    first : Stepped way.world next.world 3
    first = delivers way.world (suc place) law reached

    by : (b : Bool) → Stepped next.world (delivered_on more next name (suc place)).world (threes more) → Stepped way.world (cond b way (delivered_on more next name (suc place))).world (3 + threes more)
    by true others = record { comes = stays way.world (3 + threes more); reached = reached }
    by false others = stepped-then way.world next.world (delivered_on more next name (suc place)).world 3 (threes more) first others

-- that after a volume was settled
settles : (world : World) (name : List ℕ) → stepwise.MovesLaw → stepwise.IsReached world.history → Stepped world (settled_by name (settling_way world name)).world 39
settles world name law reached = by (is_at_rest world name || not (has_row world.history name))
  where
    timed : World
    timed = (orchestrated world (orchestrator.TimesOut name)).world

    first : Stepped world timed 3
    first = times-out world name law reached

    still : OnItsWay
    still = record { world = world; events = 0 }

    by : (b : Bool) → Stepped world (cond b still (way_after_timeout world name)).world 39
    by true = record { comes = stays world 39; reached = reached }
    by false = stepped-then world timed (way_after_timeout world name).world 3 (threes 12) first (delivers-on 12 (record { world = timed; events = 1 }) name (length world.frames) law first.reached)

-- the world after any event comes so
pub one-event : (world : World) (event : Event) → stepwise.MovesLaw → stepwise.IsReached world.history → Stepped world (occurs world event).world (most_steps world event)
one-event world (events.Create name required limit capabilities) law reached = orchestrates world (orchestrator.ToCreate name _) law tt other reached
  where
    other : IsOther (orchestrator.ToCreate name (record { required = required; limit = limit; capabilities = capabilities }))
    other node e = cc
one-event world (events.Use name node target capability readonly) law reached = orchestrates world (orchestrator.ToUse name _) law tt other reached
  where
    other : IsOther (orchestrator.ToUse name (record { node = node; target = target; capability = capability; readonly = readonly }))
    other lost e = cc
one-event world (events.Stop name node target) law reached = orchestrates world (orchestrator.ToStop name node target) law tt other reached
  where
    other : IsOther (orchestrator.ToStop name node target)
    other lost e = cc
one-event world (events.Delete name) law reached = orchestrates world (orchestrator.ToDelete name) law tt other reached
  where
    other : IsOther (orchestrator.ToDelete name)
    other node e = cc
one-event world (events.Timeout name) law reached = times-out world name law reached
one-event world (events.Deliver number) law reached = delivers world number law reached
one-event world events.RestartOrchestrator law reached = orchestrates world (orchestrator.Restarts (nodes_of world.history)) law tt other reached
  where
    other : IsOther (orchestrator.Restarts (nodes_of world.history))
    other node e = cc
one-event world (events.RestartOrchestratorWith nodes) law reached = orchestrates world (orchestrator.Restarts nodes) law tt other reached
  where
    other : IsOther (orchestrator.Restarts nodes)
    other node e = cc
one-event world events.RestartController law reached = record { comes = stays world 3; reached = reached }
one-event world (events.RestartControllerWith config) law reached =
    record { comes = record { choices = Configures config ∷ []; may = (tt, tt); few = omega arith; same_world = refl }; reached = reached }
one-event world (events.RestartNode node) law reached = grind (arith, stays)
one-event world (events.Join node) law reached = by (node_state node world) refl
  where
    by : (o : Option NodeState) → node_state node world ≡ o → Stepped world (joined_at world node o).world 3
    by None e = record { comes = record { choices = Joins node ∷ []; may = (e, tt); few = omega arith; same_world = refl }; reached = reached }
    by (Some state) e = record { comes = stays world 3; reached = reached }
one-event world (events.Lose node) law reached = by (is_node_of world node)
  where
    by : (b : Bool)
        → Stepped world (cond b (lost_by world node (orchestrator.moves world.history (orchestrator.Loses node))) (let o : Occurred = record { world = world; outcome = outcomes.NoSuchNode } in o)).world (2 + length (names_of world.history))
    by true = loses world node (loss_fault world.history) refl reached (law world.history (orchestrator.Loses node) reached)
    by false = record { comes = stays world (2 + length (names_of world.history)); reached = reached }
one-event world (events.Settle name) law reached = settles world name law reached

-- the run of any list of events is made of steps, few for each
run-from : (world : World) (list : List Event) → stepwise.MovesLaw → stepwise.IsReached world.history → Comes world (after_from world list).world (most_steps_from world list)
run-from world [] law reached = stays world 0
run-from world (event ∷ others) law reached =
    let first = one-event world event law reached in
    comes-then world _ _ (most_steps world event) (most_steps_from (occurs world event).world others) (most_steps world event + most_steps_from (occurs world event).world others) (omega arith) first.comes
    (run-from (occurs world event).world others law first.reached)

-- so is every run from the empty world
pub runs-are-steps : stepwise.MovesLaw → RunsAreSteps
runs-are-steps law config list =
    let run = run-from (empty_world config) list law (stepwise.Begins (map node_id config.nodes) (record { session = 1; call = 0 })) in
    record { choices = run.choices; may = run.may; few = run.few; same_world = run.same_world }
