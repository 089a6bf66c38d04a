-- What becomes of a row. This profile's own.
use Rattle.std.specs.Prelude.{◌≡◌, Result, OnOk, OnErr, ℕ, ◌+◌, List, [], ◌∷◌, ◌++◌, map, filter, find, min, Bool, false, not, ◌&&◌, Option, Some, None, is_some, if◌then◌else◌}
use Rattle.std.specs.Option.{option_or}
use Rattle.csi_types.specs.declared.number.Number.{Number}
use Rattle.csi_types.specs.declared.call.Kind.{Kind}
use Rattle.csi_types.specs.declared.call.Kind.TheVariants as kinds
use Rattle.csi_types.specs.Model.Same.{same_text}
use Rattle.csi_orchestrator.specs.declared.row.Goal.{Goal}
use Rattle.csi_orchestrator.specs.declared.row.Goal.TheVariants.{Create, Use, Stop, Delete}
use Rattle.csi_orchestrator.specs.declared.row.TargetEntry.{TargetEntry}
use Rattle.csi_orchestrator.specs.declared.request.Usage.{Usage}
use Rattle.csi_orchestrator.specs.declared.thing.Known.{Known}
use Rattle.csi_orchestrator.specs.declared.thing.Known.TheVariants.{Yes, No, Maybe}
use Rattle.csi_orchestrator.specs.Model.Thing.{is_no}
use Rattle.csi_orchestrator.specs.Model.History.{Arguments}
use Rattle.csi_orchestrator.specs.Private.Keyed.{change_by, put_by}
use Rattle.csi_orchestrator.specs.Model.Shown.{NodeEntryShown, RowShown, node_entry_of}

-- it becomes what is wanted, or stays as it was where that is refused
pub record Becomes {A R E : Type 0} (wanted old new : A) (result : Result R E) : Type 0 where
  pub ok : OnOk result (new ≡ wanted)
  pub err : OnErr result (new ≡ old)

-- what a call of this kind does or undoes: that the volume is there, or that it is attached to a node, staged there, or published at a
-- target there
pub data Aspect : Type 0 where
  Existence : Aspect
  Attachment : Aspect
  Staging : Aspect
  Publication : Aspect

-- the aspect that a call of this kind does or undoes
abbrev pub aspect_of : Kind → Aspect
aspect_of kinds.CreateVolume = Existence
aspect_of kinds.DeleteVolume = Existence
aspect_of kinds.ControllerPublishVolume = Attachment
aspect_of kinds.ControllerUnpublishVolume = Attachment
aspect_of kinds.NodeStageVolume = Staging
aspect_of kinds.NodeUnstageVolume = Staging
aspect_of kinds.NodePublishVolume = Publication
aspect_of kinds.NodeUnpublishVolume = Publication

-- it is marked in the entry of a node: only a publication reads the target
abbrev pub target_marked : Known → List ℕ → List TargetEntry → List TargetEntry
target_marked mark target entries = change_by (λ entry. entry.target) target (λ entry. record entry { published = mark }) entries

-- this aspect of an entry is marked so, at the target where it is a publication
abbrev pub node_marked : Known → Aspect → List ℕ → NodeEntryShown → NodeEntryShown
node_marked mark Existence target entry = entry
node_marked mark Attachment target entry = record entry { attached = mark }
node_marked mark Staging target entry = record entry { staged = mark }
node_marked mark Publication target entry = record entry { target_entries = target_marked mark target entry.target_entries }

-- among the entries, if the node has one
abbrev pub marked_at : Known → Aspect → List ℕ → List ℕ → List NodeEntryShown → List NodeEntryShown
marked_at mark aspect node target entries = change_by (λ entry. entry.node) node (node_marked mark aspect target) entries

-- a change at the node and the target of a goal, if it has them
abbrev pub at_goal : (List ℕ → List ℕ → List NodeEntryShown → List NodeEntryShown) → Option Goal → List NodeEntryShown → List NodeEntryShown
at_goal change None entries = entries
at_goal change (Some Create) entries = entries
at_goal change (Some (Use usage)) entries = change usage.node usage.target entries
at_goal change (Some (Stop node target)) entries = change node target entries
at_goal change (Some Delete) entries = entries

-- what a call of this kind for the row's goal does or undoes is marked
abbrev pub exists_marked : Known → Aspect → Known → Known
exists_marked mark Existence exists = mark
exists_marked mark aspect exists = exists

-- this aspect is marked so in the entry of the goal's node
abbrev pub nodes_marked : Known → Aspect → Option Goal → List NodeEntryShown → List NodeEntryShown
nodes_marked mark Existence goal entries = entries
nodes_marked mark aspect goal entries = at_goal (marked_at mark aspect) goal entries

-- what a call of this kind does or undoes is marked so in a row
abbrev pub marked_row : Known → Kind → RowShown → RowShown
marked_row mark kind row =
    record row { exists = exists_marked mark (aspect_of kind) row.exists; node_entries = nodes_marked mark (aspect_of kind) row.goal row.node_entries }

-- a call of this kind was sent
abbrev pub opened_row : Number → Kind → RowShown → RowShown
opened_row number kind row = record row { open_call = Some (record { number = number; kind = kind }); tries = min 3 (1 + row.tries) }

-- it is open under this number then, and what it does or undoes may be so
abbrev pub row_once_sent : Number → Kind → RowShown → RowShown
row_once_sent number kind row = opened_row number kind (marked_row Maybe kind row)

-- what a success of a call of this kind tells
abbrev pub known_by_success_of : Kind → Known
known_by_success_of kinds.CreateVolume = Yes
known_by_success_of kinds.DeleteVolume = No
known_by_success_of kinds.ControllerPublishVolume = Yes
known_by_success_of kinds.ControllerUnpublishVolume = No
known_by_success_of kinds.NodeStageVolume = Yes
known_by_success_of kinds.NodeUnstageVolume = No
known_by_success_of kinds.NodePublishVolume = Yes
known_by_success_of kinds.NodeUnpublishVolume = No

-- the id that it brings
abbrev pub id_told : Kind → Option ℕ → Option ℕ
id_told kinds.CreateVolume id = id
id_told kind id = None

-- a call of this kind succeeded
abbrev pub answered_row : Kind → Option ℕ → RowShown → RowShown
answered_row kind id row = record row { id = option_or (id_told kind id) row.id; open_call = None; tries = 0 }

-- what it does is so then, and what it undoes isn't
abbrev pub succeeded_row : Kind → Option ℕ → RowShown → RowShown
succeeded_row kind id row = answered_row kind id (marked_row (known_by_success_of kind) kind row)

-- something is wanted now
abbrev pub wanted_row : Goal → RowShown → RowShown
wanted_row goal row = record row { goal = Some goal; open_call = None; tries = 0 }

-- only entries of which something may be so are kept
abbrev pub is_target_kept : TargetEntry → Bool
is_target_kept entry = not (is_no entry.published)

-- an entry of a node with its targets that are kept
abbrev pub with_kept_targets : NodeEntryShown → NodeEntryShown
with_kept_targets entry = record entry { target_entries = filter is_target_kept entry.target_entries }

-- some target is there
abbrev pub has_targets : List TargetEntry → Bool
has_targets [] = false
has_targets (entry ∷ entries) = not false

-- something of the entry may be so
abbrev pub is_node_kept : NodeEntryShown → Bool
is_node_kept entry = not (is_no entry.attached && is_no entry.staged && not (has_targets entry.target_entries))

-- entries of which those are left
abbrev pub tidied_entries : List NodeEntryShown → List NodeEntryShown
tidied_entries entries = filter is_node_kept (map with_kept_targets entries)

-- nothing is wanted now
abbrev pub dropped_row : RowShown → RowShown
dropped_row row = record row { goal = None; open_call = None; tries = 0; node_entries = tidied_entries row.node_entries }

-- what is wanted once a goal is given up: a use that didn't come about is stopped
abbrev pub stopped_goal : Goal → Goal
stopped_goal Create = Create
stopped_goal (Use usage) = Stop usage.node usage.target
stopped_goal (Stop node target) = Stop node target
stopped_goal Delete = Delete

-- a new row
abbrev pub new_row : List ℕ → Arguments → RowShown
new_row name arguments =
    record { name = name; arguments = arguments; id = None; exists = No; goal = Some Create; open_call = None; tries = 0; node_entries = [] }

-- a row of which the creation is wanted again, by these arguments
abbrev pub row_wanted_anew : Arguments → RowShown → RowShown
row_wanted_anew arguments row = record row { arguments = arguments; goal = Some Create; open_call = None; tries = 0 }

-- an entry for a use: a new one, or the one that is there with what it lacks
abbrev pub new_target_entry : List ℕ → TargetEntry
new_target_entry target = record { target = target; published = No }

-- the target's entry is there then
abbrev pub with_target : List ℕ → List TargetEntry → List TargetEntry
with_target target entries = if is_some (find (λ entry. same_text entry.target target) entries) then entries else entries ++ new_target_entry target ∷ []

-- a node that isn't attached gets the capability and the flag of the use
abbrev pub held_as : Usage → NodeEntryShown → NodeEntryShown
held_as usage entry = if is_no entry.attached then record entry { capability = usage.capability; readonly = usage.readonly } else entry

-- the entry of the use's node then
abbrev pub entry_for : Usage → Option NodeEntryShown → NodeEntryShown
entry_for usage None =
    record { node = usage.node; capability = usage.capability; readonly = usage.readonly; attached = No; staged = No; target_entries = new_target_entry usage.target ∷ [] }
entry_for usage (Some entry) = record (held_as usage entry) { target_entries = with_target usage.target entry.target_entries }

-- a row with that entry
abbrev pub with_entry : Usage → RowShown → RowShown
with_entry usage row = record row { node_entries = put_by (λ entry. entry.node) (entry_for usage (node_entry_of row usage.node)) row.node_entries }
