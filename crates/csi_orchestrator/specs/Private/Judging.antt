-- The rules of one row of a record, and of one that follows others, as tests. This profile's own.
use Rattle.std.specs.Prelude.{ℕ, ◌==◌, List, [], ◌∷◌, length, find, Bool, true, false, not, ◌&&◌, ◌||◌, nat_le, nat_lt, Option, Some, None, is_some, is_none, if◌then◌else◌}
use Rattle.std.specs.List.{list_all, list_any}
use Rattle.csi_types.specs.declared.rows.TheConstants.{MAX_ROWS}
use Rattle.csi_types.specs.Model.Same.{same_text, same_flag, same_capability, has_capability}
use Rattle.csi_types.specs.Model.Sharing.{is_single_node, are_two_writers, allows_one_target}
use Rattle.csi_orchestrator.specs.declared.row.Goal.{Goal}
use Rattle.csi_orchestrator.specs.declared.row.Goal.TheVariants.{Create, Use, Stop, Delete}
use Rattle.csi_orchestrator.specs.declared.row.TargetEntry.{TargetEntry}
use Rattle.csi_orchestrator.specs.declared.request.Arguments.{Arguments}
use Rattle.csi_orchestrator.specs.declared.request.Usage.{Usage}
use Rattle.csi_orchestrator.specs.declared.thing.Known.{Known}
use Rattle.csi_orchestrator.specs.declared.thing.Known.TheVariants.{Yes, No, Maybe}
use Rattle.csi_orchestrator.specs.declared.row.NodeEntry.{NodeEntry}
use Rattle.csi_orchestrator.specs.declared.row.Row.{Row}
use Rattle.csi_orchestrator.specs.Model.Thing.{is_yes, is_no}

-- ---- an entry

-- the volume is published at the target
abbrev pub is_published : TargetEntry → Bool
is_published target_entry = is_yes target_entry.published

-- it is attached and staged, and published at each target, of which there is one at least
abbrev pub is_settled : NodeEntry → Bool
is_settled entry = is_yes entry.attached && (is_yes entry.staged && (nat_le 1 (length entry.target_entries.items) && list_all is_published entry.target_entries.items))

-- it is what is left of a node that was lost
abbrev pub is_left : NodeEntry → Bool
is_left entry = not (is_no entry.attached) && (is_no entry.staged && (length entry.target_entries.items == 0))

-- nothing is on the way there
abbrev pub is_resting : NodeEntry → Bool
is_resting entry = is_settled entry || is_left entry

-- the target isn't this one
abbrev pub is_other_target : TargetEntry → TargetEntry → Bool
is_other_target target_entry other = not (same_text target_entry.target other.target)

-- each target is another one than all behind it
abbrev pub are_targets_apart : List TargetEntry → Bool
are_targets_apart [] = true
are_targets_apart (target_entry ∷ later) = list_all (is_other_target target_entry) later && are_targets_apart later

-- the entry goes with the nodes and the arguments
abbrev pub is_entry_fit : List (List ℕ) → Arguments → NodeEntry → Bool
is_entry_fit nodes arguments entry =
    nat_le (length entry.target_entries.items) 16
    && ((not (allows_one_target entry.capability.mode) || nat_le (length entry.target_entries.items) 1)
    && ((list_any (same_text entry.node) nodes || (length entry.target_entries.items == 0)) && (has_capability arguments.capabilities entry.capability && are_targets_apart entry.target_entries.items)))

-- the two are of different nodes, and may be held together
abbrev pub are_beside : NodeEntry → NodeEntry → Bool
are_beside entry other =
    not (same_text entry.node other.node)
    && (not (is_single_node entry.capability.mode || is_single_node other.capability.mode)
    && (not (are_two_writers entry.capability.mode entry.readonly other.capability.mode other.readonly)
    && not (are_two_writers other.capability.mode other.readonly entry.capability.mode entry.readonly)))

-- each entry is fit, and beside all behind it
abbrev pub are_entries_fit : List (List ℕ) → Arguments → List NodeEntry → Bool
are_entries_fit nodes arguments [] = true
are_entries_fit nodes arguments (entry ∷ later) = is_entry_fit nodes arguments entry && (list_all (are_beside entry) later && are_entries_fit nodes arguments later)

-- ---- where a use or a stop is on the way

-- one of three calls is on its way, by what is known; only the last of the three is where the target isn't alone
abbrev pub is_way : Bool → Known → Known → Known → Bool
is_way alone Maybe No No = alone
is_way alone Yes Maybe No = alone
is_way alone Yes Yes Maybe = true
is_way alone attached staged published = false

-- so it is at this target, and the volume is published at all others; the target is the last one where it must be
abbrev pub is_at_target : Bool → Known → Known → List ℕ → Bool → List TargetEntry → Bool
is_at_target must attached staged target first [] = false
is_at_target must attached staged target first (target_entry ∷ later) =
    if same_text target_entry.target target then is_way (first && (length later == 0)) attached staged target_entry.published && ((not must || (length later == 0)) && list_all is_published later)
    else is_published target_entry && is_at_target must attached staged target false later

-- a stop is on its way at this entry, or of what is left there
abbrev pub stops_here : List ℕ → NodeEntry → Bool
stops_here target entry = is_left entry || is_at_target false entry.attached entry.staged target true entry.target_entries.items

-- a use is on its way at this entry
abbrev pub uses_here : Usage → NodeEntry → Bool
uses_here usage entry =
    same_capability entry.capability usage.capability
    && (same_flag entry.readonly usage.readonly
    && is_at_target true entry.attached entry.staged usage.target true entry.target_entries.items)

-- a stop is on its way at this node, and nothing at the others
abbrev pub is_stop_on_the_way : List ℕ → List ℕ → List NodeEntry → Bool
is_stop_on_the_way node target [] = false
is_stop_on_the_way node target (entry ∷ later) =
    if same_text entry.node node then stops_here target entry && list_all is_resting later else is_resting entry && is_stop_on_the_way node target later

-- a use is
abbrev pub is_use_on_the_way : Usage → List NodeEntry → Bool
is_use_on_the_way usage [] = false
is_use_on_the_way usage (entry ∷ later) =
    if same_text entry.node usage.node then uses_here usage entry && list_all is_resting later else is_resting entry && is_use_on_the_way usage later

-- ---- a row

-- one to three tries where something is wanted, or also none where a stop is, and else none
abbrev pub has_tries : Option Goal → ℕ → Bool
has_tries None tries = tries == 0
has_tries (Some (Stop node target)) tries = nat_le tries 3
has_tries (Some goal) tries = nat_le 1 tries && nat_le tries 3

-- an entry, if there is one, has no targets
abbrev pub is_untargeted : Option NodeEntry → Bool
is_untargeted None = true
is_untargeted (Some entry) = length entry.target_entries.items == 0

-- a stop was tried, or its node has no targets
abbrev pub is_tried : Option Goal → ℕ → List NodeEntry → Bool
is_tried (Some (Stop node target)) tries entries = nat_le 1 tries || is_untargeted (find (λ entry. same_text entry.node node) entries)
is_tried goal tries entries = true

-- where nothing is wanted
abbrev pub fits_rest : Bool → Known → List NodeEntry → Bool
fits_rest has_id Yes entries = has_id && list_all is_resting entries
fits_rest has_id No entries = has_id && (length entries == 0)
fits_rest has_id Maybe entries = not has_id && (length entries == 0)

-- it may be there, and has no entries
abbrev pub is_bare : Known → List NodeEntry → Bool
is_bare Maybe entries = length entries == 0
is_bare exists entries = false

-- where something is
abbrev pub fits_goal : Goal → Bool → Known → List NodeEntry → Bool
fits_goal Create has_id exists entries = not has_id && is_bare exists entries
fits_goal (Use usage) has_id exists entries = has_id && (is_yes exists && is_use_on_the_way usage entries)
fits_goal (Stop node target) has_id exists entries = has_id && (is_yes exists && is_stop_on_the_way node target entries)
fits_goal Delete has_id exists entries = has_id && is_bare exists entries

-- the entries go with the id, with what is known of the volume, and with what is wanted of it
abbrev pub fits_life : Option Goal → Bool → Known → List NodeEntry → Bool
fits_life None has_id exists entries = fits_rest has_id exists entries
fits_life (Some goal) has_id exists entries = fits_goal goal has_id exists entries

-- the row may be one of a record of these nodes, whichever rows are before it
abbrev pub is_restorable : List (List ℕ) → Row → Bool
is_restorable nodes row =
    nat_le (length row.node_entries.items) 64
    && (is_none row.open_call
    && (has_tries row.goal row.tries
    && (is_tried row.goal row.tries row.node_entries.items
    && (are_entries_fit nodes row.arguments row.node_entries.items
    && fits_life row.goal (is_some row.id) row.exists row.node_entries.items))))

-- ---- nodes

-- each node is another one than all behind it
abbrev pub are_nodes_apart : List (List ℕ) → Bool
are_nodes_apart [] = true
are_nodes_apart (node ∷ later) = not (list_any (same_text node) later) && are_nodes_apart later

-- ---- rows

-- it may follow so many others, whatever their names are
abbrev pub may_follow : List (List ℕ) → ℕ → Row → Bool
may_follow nodes count row = nat_lt count MAX_ROWS && is_restorable nodes row
