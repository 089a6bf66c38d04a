-- The call that is due for a row, by what it knows of what its goal names. This profile's own. The law `DueIsTold` says that this
-- is what `Due.antt` says by the history.
use Rattle.std.specs.Prelude.{ℕ, List, Bool, false, not, ◌&&◌, Option, Some, None, option_and_then, if◌then◌else◌}
use Rattle.std.specs.List.{list_any}
use Rattle.csi_types.specs.declared.call.Call.TheVariants as calls
use Rattle.csi_types.specs.declared.call.Party.TheVariants.{Controller, Node}
use Rattle.csi_types.specs.Model.Same.{same_text}
use Rattle.csi_orchestrator.specs.declared.marks.Marks.{Marks}
use Rattle.csi_orchestrator.specs.declared.row.Goal.{Goal as KeptGoal}
use Rattle.csi_orchestrator.specs.declared.row.Goal.TheVariants as kept
use Rattle.csi_orchestrator.specs.declared.thing.Known.TheVariants.{No}
use Rattle.csi_orchestrator.specs.Model.Thing.{is_yes, is_no}
use Rattle.csi_orchestrator.specs.Model.History.{Arguments, Usage}
use Rattle.csi_orchestrator.specs.Model.Due.{Due, call_for}
use Rattle.csi_orchestrator.specs.Model.Shown.{NodeEntryShown, RowShown, node_entry_of, mark_in, publication_known, goal_in}

-- some other target of the node may be published
abbrev pub others_in : List ℕ → Option NodeEntryShown → Bool
others_in target None = false
others_in target (Some entry) = list_any (λ target_entry. not (same_text target_entry.target target) && not (is_no target_entry.published)) entry.target_entries

-- what is known of what a goal names
abbrev pub marks_of_volume : RowShown → Marks
marks_of_volume row = record { exists = row.exists; attached = No; staged = No; published = No; others = false }

-- at this node and target
abbrev pub marks_at : RowShown → List ℕ → List ℕ → Marks
marks_at row node target =
    record {
      exists = row.exists;
      attached = mark_in (λ entry. entry.attached) (node_entry_of row node);
      staged = mark_in (λ entry. entry.staged) (node_entry_of row node);
      published = mark_in (publication_known target) (node_entry_of row node);
      others = others_in target (node_entry_of row node);
    }

-- for this goal
abbrev pub marks_for : RowShown → KeptGoal → Marks
marks_for row kept.Create = marks_of_volume row
marks_for row (kept.Use usage) = marks_at row usage.node usage.target
marks_for row (kept.Stop node target) = marks_at row node target
marks_for row kept.Delete = marks_of_volume row

-- the call that is due for a goal, by what is known of what it names
abbrev pub create_due : List ℕ → Arguments → Marks → Option Due
create_due name arguments marks =
    if is_yes marks.exists then None
    else Some (record { party = Controller; call = calls.CreateVolume name arguments.required arguments.limit arguments.capabilities })

-- the call that is due for a use
abbrev pub use_due : Usage → Marks → ℕ → Option Due
use_due usage marks id =
    if not (is_yes marks.attached) then
    Some (record { party = Controller; call = calls.ControllerPublishVolume id usage.node usage.capability usage.readonly })
    else if not (is_yes marks.staged) then Some (record { party = Node usage.node; call = calls.NodeStageVolume id usage.capability })
    else if not (is_yes marks.published) then
    Some (record { party = Node usage.node; call = calls.NodePublishVolume id usage.target usage.capability usage.readonly })
    else None

-- the call that is due for a stop
abbrev pub stop_due : List ℕ → List ℕ → Marks → ℕ → Option Due
stop_due node target marks id =
    if not (is_no marks.published) then Some (record { party = Node node; call = calls.NodeUnpublishVolume id target })
    else if marks.others then None
    else if not (is_no marks.staged) then Some (record { party = Node node; call = calls.NodeUnstageVolume id })
    else if not (is_no marks.attached) then Some (record { party = Controller; call = calls.ControllerUnpublishVolume id node })
    else None

-- the call that is due for a delete
abbrev pub delete_due : Marks → ℕ → Option Due
delete_due marks id = if is_no marks.exists then None else Some (record { party = Controller; call = calls.DeleteVolume id })

-- the same, for a goal of a volume of this name, these arguments and this id
abbrev pub due_with : List ℕ → Arguments → Option ℕ → Marks → KeptGoal → Option Due
due_with name arguments id marks kept.Create = create_due name arguments marks
due_with name arguments id marks (kept.Use usage) = option_and_then (use_due usage marks) id
due_with name arguments id marks (kept.Stop node target) = option_and_then (stop_due node target marks) id
due_with name arguments id marks kept.Delete = option_and_then (delete_due marks) id

-- the same, for a row's goal
abbrev pub due_by : RowShown → Option KeptGoal → Option Due
due_by row None = None
due_by row (Some goal) = due_with row.name row.arguments row.id (marks_for row goal) goal

-- the call that is due for a row
abbrev pub due_in : RowShown → Option Due
due_in row = due_by row row.goal

-- the open call of a row, without its number
abbrev pub due_open : RowShown → Option Due
due_open row = option_and_then (λ open_call. call_for row.name (goal_in row) row.id open_call.kind) row.open_call
