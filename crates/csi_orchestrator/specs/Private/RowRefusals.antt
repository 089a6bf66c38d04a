-- Why a row refuses what is asked of its volume: the first reason that holds. This profile's own.
use Rattle.std.specs.Prelude.{ℕ, List, length, count_by, Bool, false, not, ◌&&◌, ◌||◌, nat_le, Option, Some, None, is_some, is_none, if◌then◌else◌}
use Rattle.std.specs.List.{list_any}
use Rattle.csi_types.specs.declared.rows.TheConstants.{MAX_ROWS}
use Rattle.csi_types.specs.declared.number.Number.{Number}
use Rattle.csi_types.specs.Model.Same.{same_text, has_capability}
use Rattle.csi_types.specs.Model.Sharing.{allows_one_target}
use Rattle.csi_orchestrator.specs.declared.fault.OrchFault.{OrchFault}
use Rattle.csi_orchestrator.specs.declared.fault.OrchFault.TheVariants as faults
use Rattle.csi_orchestrator.specs.declared.marks.Marks.{Marks}
use Rattle.csi_orchestrator.specs.declared.row.Goal.{Goal}
use Rattle.csi_orchestrator.specs.declared.step.Step.{Step}
use Rattle.csi_orchestrator.specs.declared.step.Step.TheVariants as steps
use Rattle.csi_orchestrator.specs.Model.Thing.{is_yes, is_no}
use Rattle.csi_orchestrator.specs.Model.History.{Usage}
use Rattle.csi_orchestrator.specs.Model.Commands.{next_number, is_for_one_node, uses_as_second_writer, is_otherwise}
use Rattle.csi_orchestrator.specs.Model.Shown.{NodeEntryShown, RowShown, node_entry_of, mark_in, publication_known, held_at}
use Rattle.csi_orchestrator.specs.Public.RowDue.{others_in, marks_at}
use Rattle.csi_orchestrator.specs.Public.RowRefusals.{has_elsewhere}

-- no number is left in the session
abbrev pub is_last : Number → Bool
is_last last = is_none (next_number last)

-- a create: why the first of a name is refused, and why another is
abbrev pub first_fault : Number → List RowShown → Option OrchFault
first_fault last rows = if is_last last then Some faults.NumbersSpent else if nat_le MAX_ROWS (length rows) then Some faults.Full else None

-- why a create of a name that has a row is refused
abbrev pub again_fault : Number → RowShown → Option OrchFault
again_fault last row = if is_some row.id || is_some row.goal then Some faults.NameUsed else if is_last last then Some faults.NumbersSpent else None

-- at this node it may be attached otherwise
abbrev pub is_entry_otherwise : Usage → Option NodeEntryShown → Bool
is_entry_otherwise usage None = false
is_entry_otherwise usage (Some entry) = not (is_no entry.attached) && is_otherwise usage (Some (held_at entry))

-- how many other targets may be published
abbrev pub others_count : List ℕ → Option NodeEntryShown → ℕ
others_count target None = 0
others_count target (Some entry) = count_by (λ target_entry. not (same_text target_entry.target target) && not (is_no target_entry.published)) entry.target_entries

-- a use: why it is refused, whether or not it is met already
abbrev pub use_refusal : List (List ℕ) → Usage → RowShown → Option OrchFault
use_refusal nodes usage row =
    if not (is_yes row.exists) then Some faults.NotCreated
    else if is_some row.goal then Some faults.Busy
    else if not (list_any (same_text usage.node) nodes) then Some faults.NoSuchNode
    else if not (has_capability row.arguments.capabilities usage.capability) then Some faults.NotCapable
    else if has_elsewhere (is_for_one_node usage) usage.node row then Some faults.HeldElsewhere
    else if has_elsewhere (uses_as_second_writer usage) usage.node row then Some faults.WriterElsewhere
    else if is_entry_otherwise usage (node_entry_of row usage.node) then Some faults.HeldOtherwise
    else if allows_one_target usage.capability.mode && others_in usage.target (node_entry_of row usage.node) then Some faults.TargetTaken
    else None

-- at how many other nodes the volume may be attached
abbrev pub others_attached : List ℕ → RowShown → ℕ
others_attached node row = count_by (λ entry. not (same_text entry.node node) && not (is_no entry.attached)) row.node_entries

-- why one that isn't met yet is
abbrev pub room_refusal : Number → Usage → RowShown → Option OrchFault
room_refusal last usage row =
    if is_last last then Some faults.NumbersSpent
    else if nat_le 16 (others_count usage.target (node_entry_of row usage.node)) || nat_le 64 (others_attached usage.node row) then Some faults.Full
    else None

-- all that is left to be done at the node is to detach the volume
abbrev pub is_left : List ℕ → List ℕ → RowShown → Bool
is_left node target row =
    let marks : Marks = marks_at row node target in
    not (is_no marks.attached) && (is_no marks.published && not marks.others)

-- a stop
abbrev pub stop_refusal : List (List ℕ) → Number → List ℕ → List ℕ → RowShown → Option OrchFault
stop_refusal nodes last node target row =
    if not (is_yes row.exists) then Some faults.NotCreated
    else if is_some row.goal then Some faults.Busy
    else if not (list_any (same_text node) nodes) && not (is_left node target row) then Some faults.NoSuchNode
    else if is_no (mark_in (publication_known target) (node_entry_of row node)) && not (is_left node target row) then Some faults.NoSuchTarget
    else if is_last last then Some faults.NumbersSpent
    else None

-- a delete
abbrev pub is_attached_somewhere : RowShown → Bool
is_attached_somewhere row = list_any (λ entry. not (is_no entry.attached)) row.node_entries

-- why a delete is refused by what is known
abbrev pub delete_refusal : RowShown → Option OrchFault
delete_refusal row = if is_none row.id then Some faults.NotCreated else if is_attached_somewhere row then Some faults.InUse else None

-- why it is refused by what is wanted, or for want of a number
abbrev pub busy_refusal : Number → RowShown → Option OrchFault
busy_refusal last row = if is_some row.goal then Some faults.Busy else if is_last last then Some faults.NumbersSpent else None

-- a timeout
abbrev pub idle_refusal : Option Goal → Option OrchFault
idle_refusal None = Some faults.Idle
idle_refusal (Some goal) = None

-- a step: why it is refused, whether or not what it asks for is so already
abbrev pub step_refusal : List (List ℕ) → Number → Step → RowShown → Option OrchFault
step_refusal nodes last (steps.Create arguments) row = again_fault last row
step_refusal nodes last (steps.Use usage) row = use_refusal nodes usage row
step_refusal nodes last (steps.Stop node target) row = stop_refusal nodes last node target row
step_refusal nodes last steps.Delete row = delete_refusal row
step_refusal nodes last steps.TimeOut row = idle_refusal row.goal
step_refusal nodes last (steps.Succeed kind id) row = None
step_refusal nodes last steps.Fail row = None

-- why one that asks for what isn't so yet is
abbrev pub late_refusal : Number → Step → RowShown → Option OrchFault
late_refusal last (steps.Use usage) row = room_refusal last usage row
late_refusal last steps.Delete row = busy_refusal last row
late_refusal last step row = None
