-- The lines that an orchestrator answers, in a run of the stated machines: the world goes on as its orchestrator's history does. This profile's own.
use Rattle.std.specs.Prelude.{◌≡◌, ◌⊎◌, ℕ, List, [], ◌∷◌, ◌++◌, true, Option, Some, None, Result, Ok, Err}
use Rattle.std.specs.List.{AllByRecursion}
use Rattle.csi_types.specs.declared.event.Event.{Event}
use Rattle.csi_types.specs.declared.event.Event.TheVariants as events
use Rattle.csi_types.specs.declared.frame.Body.{Body}
use Rattle.csi_types.specs.declared.frame.Body.TheVariants as bodies
use Rattle.csi_types.specs.Model.Frame.{Frame}
use Rattle.csi_frames.specs.Public.Spelling.{Spells}
use Rattle.csi_orchestrator.specs.Model.History.{History}
use Rattle.csi_orchestrator.specs.Model.Moves.{Restarts, Restarted}
use Rattle.csi_orchestrator.specs.Public.Raised.{raised_history}
use Rattle.csi_world.specs.Model.World.{World}
use Rattle.csi_world.specs.Model.After.{frame_numbered, is_node_of, occurs, after_from}
use Rattle.csi_world.specs.Public.Step.{Choice, MayChooseAll, chosen_all}
use Rattle.csi_json.specs.declared.request_fault.RequestFault.{RequestFault}
use Rattle.csi_json.specs.Public.Requests.{RequestShown, Command, Reply, IsCommand, line_request}
use Rattle.csi_orchestration.specs.Public.LinesServing.{AnswersEach}
use Rattle.csi_orchestration.specs.Public.OrchestratorHistories.{IsMoved, MovesLine}

-- ---- what a line asks, as an event

-- a body is a call
abbrev pub IsCallBody : Body → Type 0
IsCallBody (bodies.Call call) = Unit {0}
IsCallBody (bodies.Reply kind reply) = ⊥

-- a frame of these bytes was sent before, a reply, and the event delivers it
pub record DeliversReply (world : World) (bytes : List ℕ) (event : Event) : Type 0 where
  pub number : ℕ
  pub frame : Frame
  pub spelled : Spells frame bytes
  pub reply : IsCallBody frame.body → ⊥
  pub sent : frame_numbered world number ≡ Some frame
  pub is : event ≡ events.Deliver number

-- a loss is of a node that is there or listed
abbrev pub IsOfNode : World → Event → Type 0
IsOfNode world (events.Lose node) = is_node_of world node ≡ true
IsOfNode world event = Unit {0}

-- what is asked comes about by this event: a command, a timeout, the loss of a node that is there or listed, or the delivery of a reply
abbrev pub ComesBy : World → Result RequestShown RequestFault → Event → Type 0
ComesBy world (Ok (Command asked)) event = IsCommand asked × IsOfNode world asked × (event ≡ asked)
ComesBy world (Ok (Reply bytes)) event = DeliversReply world bytes event
ComesBy world (Err fault) event = ⊥

-- nothing is asked of an orchestrator: a line is no request, or has bytes that are no reply
abbrev pub AsksNothing : Result RequestShown RequestFault → Type 0
AsksNothing (Ok (Command asked)) = IsCommand asked → ⊥
AsksNothing (Ok (Reply bytes)) = (frame : Frame) → Spells frame bytes → IsCallBody frame.body
AsksNothing (Err fault) = Unit {0}

-- so it is with a line
abbrev pub IsIdle : List ℕ → Type 0
IsIdle line = AsksNothing (line_request line)

-- ---- what happens elsewhere

-- where a frame is there, it is a call
abbrev pub IsNoReply : Option Frame → Type 0
IsNoReply None = Unit {0}
IsNoReply (Some frame) = IsCallBody frame.body

-- An event of the plugins: a call is delivered, a plugin restarts, or a node joins. What settles a volume is a timeout and deliveries, and stands for
-- these.
abbrev pub IsElsewhere : World → Event → Type 0
IsElsewhere world (events.Create name required limit capabilities) = ⊥
IsElsewhere world (events.Use name node target capability readonly) = ⊥
IsElsewhere world (events.Stop name node target) = ⊥
IsElsewhere world (events.Delete name) = ⊥
IsElsewhere world (events.Timeout name) = ⊥
IsElsewhere world (events.Deliver number) = IsNoReply (frame_numbered world number)
IsElsewhere world events.RestartOrchestrator = ⊥
IsElsewhere world (events.RestartOrchestratorWith nodes) = ⊥
IsElsewhere world events.RestartController = Unit {0}
IsElsewhere world (events.RestartControllerWith config) = Unit {0}
IsElsewhere world (events.RestartNode node) = Unit {0}
IsElsewhere world (events.Join node) = Unit {0}
IsElsewhere world (events.Lose node) = ⊥
IsElsewhere world (events.Settle name) = ⊥

-- ---- a run

-- the next line that asks something comes about by this event
pub record ComesNext (world : World) (event : Event) (lines : List (List ℕ)) : Type 0 where
  pub idle : List (List ℕ)
  pub line : List ℕ
  pub rest : List (List ℕ)
  pub are : lines ≡ idle ++ line ∷ rest
  pub quiet : AllByRecursion IsIdle idle
  pub comes : ComesBy world (line_request line) event

-- from a world these events bring these lines, one after another, and nothing else, to the orchestrator
abbrev pub Brings : World → List Event → List (List ℕ) → Type 0
Brings world [] lines = AllByRecursion IsIdle lines
Brings world (event ∷ others) lines =
    (IsElsewhere world event × Brings (occurs world event).world others lines)
    ⊎ ((next : ComesNext world event lines) × Brings (occurs world event).world others next.rest)

-- ---- which lines come about

-- a frame of these bytes was sent before, a reply
pub record WasSent (world : World) (bytes : List ℕ) : Type 0 where
  pub number : ℕ
  pub frame : Frame
  pub spelled : Spells frame bytes
  pub reply : IsCallBody frame.body → ⊥
  pub sent : frame_numbered world number ≡ Some frame

-- what is asked may come about in a world: a reply only if it was sent, and all else
abbrev pub MayCome : World → Result RequestShown RequestFault → Type 0
MayCome world (Ok (Command asked)) = Unit {0}
MayCome world (Ok (Reply bytes)) = AsksNothing (Ok (Reply bytes)) ⊎ WasSent world bytes
MayCome world (Err fault) = Unit {0}

-- Whatever else happens, where lines come to a world's orchestrator, its history goes on as they lead it; where its session is raised, which any
-- orchestrator may do in any world, as that does; and where it restarts with a list of nodes, as a restart does. Each line that may come is brought by
-- some events, and lines behind lines by the events behind the events.
pub record WorldsLaw : Type 0 where
  pub lines : (world : World) (others : List Event) (lines given : List (List ℕ)) (next : History) → Brings world others lines
      → AnswersEach MovesLine world.history lines given next → (after_from world others).world.history ≡ next
  pub raise : (world : World) (session : ℕ) → (choices : List Choice) × MayChooseAll world choices × ((chosen_all world choices).history ≡ raised_history session world.history)
  pub restart : (world : World) (nodes : List (List ℕ)) (next : History) → IsMoved {A = Unit {0}} (λ done. Restarted) world.history (Restarts nodes) (Ok tt) next
      → (occurs world (events.RestartOrchestratorWith nodes)).world.history ≡ next
  pub each : (world : World) (line : List ℕ) → MayCome world (line_request line) → (others : List Event) × Brings world others (line ∷ [])
  pub joined : (world : World) (others more : List Event) (lines rest : List (List ℕ)) → Brings world others lines → Brings (after_from world others).world more rest
      → Brings world (others ++ more) (lines ++ rest)
