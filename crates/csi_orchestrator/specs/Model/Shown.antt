-- What an orchestrator shows of itself, by its rows. This profile's own.
use Rattle.std.specs.Prelude.{ℕ, List, find, Bool, Option, Some, None, is_some, option_map, option_and_then}
use Rattle.csi_types.specs.declared.capability.Capability.{Capability}
use Rattle.csi_types.specs.declared.number.Number.{Number}
use Rattle.csi_types.specs.Model.Same.{same_text}
use Rattle.csi_orchestrator.specs.declared.row.Goal.{Goal as KeptGoal}
use Rattle.csi_orchestrator.specs.declared.row.Goal.TheVariants as kept
use Rattle.csi_orchestrator.specs.declared.row.OpenCall.{OpenCall}
use Rattle.csi_orchestrator.specs.declared.row.TargetEntry.{TargetEntry}
use Rattle.csi_orchestrator.specs.declared.thing.Thing.{Thing}
use Rattle.csi_orchestrator.specs.declared.thing.Thing.TheVariants.{Exists, Attached, Staged, Published}
use Rattle.csi_orchestrator.specs.declared.thing.Known.{Known}
use Rattle.csi_orchestrator.specs.declared.thing.Known.TheVariants.{No}
use Rattle.csi_orchestrator.specs.Model.Thing.{Issued, name_in}
use Rattle.csi_orchestrator.specs.Model.History.{Arguments, Held, Goal, Create, Use, Stop, Delete, History}
use Rattle.csi_orchestrator.specs.Model.Due.{call_for}
use Rattle.csi_orchestrator.specs.Model.Agrees.{OrchestratorView, Agrees}

-- what a row keeps of a node, as it is shown
pub record NodeEntryShown : Type 0 where
  pub node : List ℕ
  pub capability : Capability
  pub readonly : Bool
  pub attached : Known
  pub staged : Known
  pub target_entries : List TargetEntry

-- a volume's row, as it is shown
pub record RowShown : Type 0 where
  pub name : List ℕ
  pub arguments : Arguments
  pub id : Option ℕ
  pub exists : Known
  pub goal : Option KeptGoal
  pub open_call : Option OpenCall
  pub tries : ℕ
  pub node_entries : List NodeEntryShown

-- an orchestrator to its callers: its nodes, the number of its last call (or call 0 of a session without one), and its rows
pub record OrchestratorParts : Type 0 where
  pub nodes : List (List ℕ)
  pub last : Number
  pub rows : List RowShown

-- the entries of a name, of a node and of a target
abbrev pub row_of : List RowShown → List ℕ → Option RowShown
row_of rows name = find (λ row. same_text row.name name) rows

-- the row's entry of a node
abbrev pub node_entry_of : RowShown → List ℕ → Option NodeEntryShown
node_entry_of row node = find (λ entry. same_text entry.node node) row.node_entries

-- the node's entry of a target
abbrev pub target_entry_of : NodeEntryShown → List ℕ → Option TargetEntry
target_entry_of entry target = find (λ target_entry. same_text target_entry.target target) entry.target_entries

-- what has no entry isn't so
abbrev pub mark_in : {X : Type 0} → (X → Known) → Option X → Known
mark_in mark None = No
mark_in mark (Some x) = mark x

-- what is known of the publication at this target
abbrev pub publication_known : List ℕ → NodeEntryShown → Known
publication_known target entry = mark_in (λ target_entry. target_entry.published) (target_entry_of entry target)

-- what a row knows of a thing of its name
abbrev pub mark_of : Thing → RowShown → Known
mark_of (Exists name) row = row.exists
mark_of (Attached name node) row = mark_in (λ entry. entry.attached) (node_entry_of row node)
mark_of (Staged name node) row = mark_in (λ entry. entry.staged) (node_entry_of row node)
mark_of (Published name node target) row = mark_in (publication_known target) (node_entry_of row node)

-- what is wanted of a row's volume
abbrev pub goal_shown : Arguments → KeptGoal → Goal
goal_shown arguments kept.Create = Create arguments
goal_shown arguments (kept.Use usage) = Use usage
goal_shown arguments (kept.Stop node target) = Stop node target
goal_shown arguments kept.Delete = Delete

-- the goal of a row
abbrev pub goal_in : RowShown → Option Goal
goal_in row = option_map (goal_shown row.arguments) row.goal

-- how a row's volume is held at a node
abbrev pub held_at : NodeEntryShown → Held
held_at entry = record { capability = entry.capability; readonly = entry.readonly }

-- how it is held there, if the node has an entry
abbrev pub held_on_node : RowShown → List ℕ → Option Held
held_on_node row node = option_map held_at (node_entry_of row node)

-- the open call of a row: the one of its kind for what is wanted
abbrev pub issued_of_open_call : RowShown → OpenCall → Option Issued
issued_of_open_call row open_call =
    option_map (λ due. record { name = row.name; number = open_call.number; party = due.party; call = due.call }) (call_for row.name (goal_in row) row.id open_call.kind)

-- the same, if it has one
abbrev pub open_in_row : RowShown → Option Issued
open_in_row row = option_and_then (issued_of_open_call row) row.open_call

-- the tries of a row, if there is one
abbrev pub tries_in : Option RowShown → ℕ
tries_in None = 0
tries_in (Some row) = row.tries

-- what these parts show, by names
abbrev pub orchestrator_view : OrchestratorParts → OrchestratorView
orchestrator_view parts =
    record {
      nodes = parts.nodes;
      last = parts.last;
      rows = λ name. is_some (row_of parts.rows name);
      marks = λ thing. mark_in (mark_of thing) (row_of parts.rows (name_in thing));
      ids = λ name. option_and_then (λ row. row.id) (row_of parts.rows name);
      goals = λ name. option_and_then goal_in (row_of parts.rows name);
      arguments = λ name. option_map (λ row. row.arguments) (row_of parts.rows name);
      holdings = λ name node. option_and_then (λ row. held_on_node row node) (row_of parts.rows name);
      open_calls = λ name. option_and_then open_in_row (row_of parts.rows name);
      counts = λ name. tries_in (row_of parts.rows name);
    }

-- the history is one that they agree with
abbrev pub Shows : OrchestratorParts → History → Type 0
Shows parts history = Agrees (orchestrator_view parts) history
