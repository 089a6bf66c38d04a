-- What becomes of an orchestrator's rows where a session begins. This profile's own.
use Rattle.std.specs.Prelude.{ℕ, ◌+◌, List, [], map, filter, Bool, not, ◌&&◌, Option, Some, None, is_none, if◌then◌else◌}
use Rattle.std.specs.List.{list_any}
use Rattle.csi_types.specs.Model.Same.{same_text}
use Rattle.csi_orchestrator.specs.declared.fault.OrchFault.{OrchFault}
use Rattle.csi_orchestrator.specs.declared.fault.OrchFault.TheVariants as faults
use Rattle.csi_orchestrator.specs.declared.row.Goal.{Goal}
use Rattle.csi_orchestrator.specs.declared.row.Goal.TheVariants.{Use, Stop}
use Rattle.csi_orchestrator.specs.declared.thing.Known.TheVariants.{No}
use Rattle.csi_orchestrator.specs.declared.thing.Thing.TheVariants.{Attached}
use Rattle.csi_orchestrator.specs.Model.Thing.{is_no}
use Rattle.csi_orchestrator.specs.Model.Commands.{next_session}
use Rattle.csi_orchestrator.specs.Model.Moves.{without_node}
use Rattle.csi_orchestrator.specs.Model.Shown.{NodeEntryShown, RowShown, OrchestratorParts, mark_of}
use Rattle.csi_orchestrator.specs.Public.Shown.{closed}

-- the row is forgotten: its volume isn't there, and nothing is wanted of it
abbrev pub is_row_forgotten : RowShown → Bool
is_row_forgotten row = is_no row.exists && is_none row.goal

-- the rows that aren't
abbrev pub remembered : List RowShown → List RowShown
remembered rows = filter (λ row. not (is_row_forgotten row)) rows

-- some volume may be attached at the node
abbrev pub is_used_in : List RowShown → List ℕ → Bool
is_used_in rows node = list_any (λ row. not (is_no (mark_of (Attached row.name node) row))) rows

-- some node of the one list isn't in the other, and a volume may be attached there
abbrev pub leaves_out_used : List (List ℕ) → List (List ℕ) → List RowShown → Bool
leaves_out_used old new rows = list_any (λ node. not (list_any (same_text node) new) && is_used_in rows node) old

-- why no session begins with a list of nodes, after one with another list and this number
abbrev pub restart_refusal : ℕ → List (List ℕ) → List (List ℕ) → List RowShown → Option OrchFault
restart_refusal session old new rows =
    if is_none (next_session session) then Some faults.NumbersSpent
    else if leaves_out_used old new rows then Some faults.NodeInUse
    else None

-- why a node isn't given up as lost, after a session of this number
abbrev pub loss_refusal : ℕ → Option OrchFault
loss_refusal session = if is_none (next_session session) then Some faults.NumbersSpent else None

-- the parts once a session began with a list of nodes
abbrev pub restarted_parts : List (List ℕ) → OrchestratorParts → OrchestratorParts
restarted_parts nodes parts = record { nodes = nodes; last = record { session = parts.last.session + 1; call = 0 }; rows = map closed (remembered parts.rows) }

-- of the entry of a node that is lost only the attachment stays
abbrev pub entry_at_loss : List ℕ → NodeEntryShown → NodeEntryShown
entry_at_loss node entry = if same_text entry.node node then record entry { staged = No; target_entries = [] } else entry

-- a use at the node becomes its stop, which wasn't tried yet
abbrev pub stopped_at : List ℕ → Option Goal → RowShown → RowShown
stopped_at node (Some (Use usage)) row =
    if same_text usage.node node then record row { goal = Some (Stop usage.node usage.target); open_call = None; tries = 0 } else closed row
stopped_at node goal row = closed row

-- a row once the node was lost
abbrev pub row_at_loss : List ℕ → RowShown → RowShown
row_at_loss node row = stopped_at node row.goal (record row { node_entries = map (entry_at_loss node) row.node_entries })

-- the parts once a node was lost
abbrev pub parts_at_loss : List ℕ → OrchestratorParts → OrchestratorParts
parts_at_loss node parts =
    record {
      nodes = without_node node parts.nodes;
      last = record { session = parts.last.session + 1; call = 0 };
      rows = map (row_at_loss node) (remembered parts.rows);
    }
