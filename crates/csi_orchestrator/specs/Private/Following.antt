-- What an orchestrator shows after each thing that it does, by what it showed before: its history is read only at the
-- front. This profile's own.
use Rattle.std.specs.Prelude.{◌≡◌, ◌≢◌, ℕ, ◌+◌, ◌<◌, List, [], ◌∷◌, min, true, false, ◌&&◌, Option, Some, None, if◌then◌else◌}
use Rattle.std.specs.Option.{option_or}
use Rattle.csi_types.specs.declared.call.Call.{Call}
use Rattle.csi_types.specs.declared.call.Call.TheVariants as calls
use Rattle.csi_types.specs.declared.status.Status.{Status}
use Rattle.csi_types.specs.Model.Reply.{is_ok_status}
use Rattle.csi_types.specs.Model.Same.{same_text}
use Rattle.csi_orchestrator.specs.declared.thing.Thing.TheVariants.{Attached}
use Rattle.csi_orchestrator.specs.declared.thing.Known.{Known}
use Rattle.csi_orchestrator.specs.declared.thing.Known.TheVariants.{Yes, No, Maybe}
use Rattle.csi_orchestrator.specs.Model.Thing.{Issued, touches, is_doing}
use Rattle.csi_orchestrator.specs.Model.History.{Goal, Started, Lost, Forgotten, Sent, Accepted, Closed, Noted, History, with_items}
use Rattle.csi_orchestrator.specs.Model.Readings.{is_gone_with, arguments_in_goal, held_by_call, known, last_number, open_call}
use Rattle.csi_orchestrator.specs.Model.WellFormed.{IsNextNumber, IsWellFormed}
use Rattle.csi_orchestrator.specs.Model.Agrees.{OrchestratorView, Agrees}

-- a session started with a list of nodes: every call is given up
abbrev pub after_started : ℕ → List (List ℕ) → OrchestratorView → OrchestratorView
after_started session nodes view = record view { nodes = nodes; last = record { session = session; call = 0 }; open_calls = λ name. None }

-- a node was lost: nothing is staged or published there
abbrev pub after_lost : List ℕ → OrchestratorView → OrchestratorView
after_lost node view = record view { marks = λ thing. if is_gone_with node thing then No else view.marks thing }

-- a name was forgotten: what was known of it is known still
abbrev pub after_forgotten : List ℕ → OrchestratorView → OrchestratorView
after_forgotten name view =
    record view {
      rows = λ other. if same_text name other then false else view.rows other;
      ids = λ other. if same_text name other then None else view.ids other;
      arguments = λ other. if same_text name other then None else view.arguments other;
    }

-- a call was sent: what it does or undoes may be so or not
abbrev pub after_sent : Issued → OrchestratorView → OrchestratorView
after_sent issued view =
    record view {
      last = issued.number;
      marks = λ thing. if touches thing issued then Maybe else view.marks thing;
      holdings = λ name node. if same_text issued.name name then option_or (held_by_call node issued.call) (view.holdings name node) else view.holdings name node;
      open_calls = λ name. if same_text issued.name name then Some issued else view.open_calls name;
      counts = λ name. if same_text issued.name name then min 3 (1 + view.counts name) else view.counts name;
    }

-- the id that a success brought, if the call was to make a volume
abbrev pub id_brought : Call → Option ℕ → Option ℕ
id_brought (calls.CreateVolume name required limit capabilities) id = id
id_brought call id = None

-- a success tells what is so
abbrev pub known_by_success : Call → Known
known_by_success call = if is_doing call then Yes else No

-- a reply to the open call was taken
abbrev pub after_accepted : Issued → Status → Option ℕ → OrchestratorView → OrchestratorView
after_accepted issued status id view =
    record view {
      marks = λ thing. if is_ok_status status && touches thing issued then known_by_success issued.call else view.marks thing;
      ids = λ name. if is_ok_status status && same_text issued.name name then option_or (id_brought issued.call id) (view.ids name) else view.ids name;
      open_calls = λ name. if same_text issued.name name then None else view.open_calls name;
      counts = λ name. if is_ok_status status && same_text issued.name name then 0 else view.counts name;
    }

-- the open call was given up
abbrev pub after_closed : Issued → OrchestratorView → OrchestratorView
after_closed issued view = record view { open_calls = λ name. if same_text issued.name name then None else view.open_calls name }

-- something was noted for a name
abbrev pub after_noted : List ℕ → Option Goal → OrchestratorView → OrchestratorView
after_noted name goal view =
    record view {
      rows = λ other. if same_text name other then true else view.rows other;
      goals = λ other. if same_text name other then goal else view.goals other;
      arguments = λ other. if same_text name other then option_or (arguments_in_goal goal) (view.arguments other) else view.arguments other;
      counts = λ other. if same_text name other then 0 else view.counts other;
    }

-- a call that detaches the volume from a node is sent only where it may be attached there. Elsewhere nothing has to be shown of how
-- it is held (`same_holdings`), and once such a call was sent that would have to be shown again, as the history has it
abbrev pub DetachesSomething : History → Issued → Type 0
DetachesSomething history issued =
    (node : List ℕ) → touches (Attached issued.name node) issued ≡ true → is_doing issued.call ≡ false → known history (Attached issued.name node) ≢ No

-- whatever an orchestrator shows, if it agrees with its history, it agrees with the longer one after each item
pub record ViewFollows : Type 0 where
  pub started : (view : OrchestratorView) (history : History) (session : ℕ) (nodes : List (List ℕ)) → Agrees view history → (last_number history).session < session
      → Agrees (after_started session nodes view) (with_items history (Started session nodes ∷ []))
  pub lost : (view : OrchestratorView) (history : History) (node : List ℕ) → Agrees view history
      → Agrees (after_lost node view) (with_items history (Lost node ∷ []))
  pub forgotten : (view : OrchestratorView) (history : History) (name : List ℕ) → Agrees view history
      → Agrees (after_forgotten name view) (with_items history (Forgotten name ∷ []))
  pub sent : (view : OrchestratorView) (history : History) (issued : Issued) → IsWellFormed history → Agrees view history → IsNextNumber (last_number history) issued.number
      → DetachesSomething history issued → Agrees (after_sent issued view) (with_items history (Sent issued ∷ []))
  pub accepted : (view : OrchestratorView) (history : History) (issued : Issued) (status : Status) (id : Option ℕ) → IsWellFormed history → Agrees view history
      → open_call history issued.name ≡ Some issued → Agrees (after_accepted issued status id view) (with_items history (Accepted issued.number status id ∷ []))
  pub closed : (view : OrchestratorView) (history : History) (issued : Issued) → IsWellFormed history → Agrees view history
      → open_call history issued.name ≡ Some issued → Agrees (after_closed issued view) (with_items history (Closed issued.number ∷ []))
  pub noted : (view : OrchestratorView) (history : History) (name : List ℕ) (goal : Option Goal) → Agrees view history
      → Agrees (after_noted name goal view) (with_items history (Noted name goal ∷ []))
