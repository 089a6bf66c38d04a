-- Why a row refuses what is asked of its volume: the first reason that holds. This profile's own.
use Rattle.std.specs.Prelude.{ℕ, List, Bool, not, ◌&&◌}
use Rattle.std.specs.List.{list_any}
use Rattle.csi_types.specs.Model.Same.{same_text}
use Rattle.csi_orchestrator.specs.Model.Thing.{is_no}
use Rattle.csi_orchestrator.specs.Model.History.{Held}
use Rattle.csi_orchestrator.specs.Model.Shown.{NodeEntryShown, RowShown, held_at}

-- at another node it may be attached so
abbrev pub is_so_elsewhere : (Held → Bool) → List ℕ → NodeEntryShown → Bool
is_so_elsewhere so node entry = not (same_text entry.node node) && not (is_no entry.attached) && so (held_at entry)

-- at some other node of the row it may be attached so
abbrev pub has_elsewhere : (Held → Bool) → List ℕ → RowShown → Bool
has_elsewhere so node row = list_any (is_so_elsewhere so node) row.node_entries
