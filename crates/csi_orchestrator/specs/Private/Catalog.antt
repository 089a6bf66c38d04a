-- The rows of a catalog, and how its maps belong to them.
use Rattle.std.specs.Prelude.{◌≡◌, ◌⊎◌, ℕ, ◌+◌, ◌<◌, ◌≤◌, List, length, map, set, nat_eq, position, Bool, Option, Some, None, option_map, IfSome}
use Rattle.indexmap.specs.IndexMap.{spare, index_map_len, Updates}
use Rattle.csi_types.specs.Public.Places.{IsAt}
use Rattle.csi_orchestrator.specs.declared.sending.Outgoing.{Outgoing}
use Rattle.csi_orchestrator.specs.declared.row.OpenCall.{OpenCall}
use Rattle.csi_orchestrator.specs.declared.row.Row.{Row}
use Rattle.csi_orchestrator.specs.declared.catalog.Catalog.{Catalog}
use Rattle.csi_orchestrator.specs.Private.Shown.{without_call}
use Rattle.csi_orchestrator.specs.Public.Beginning.{row_at_loss}
use Rattle.csi_orchestrator.specs.Public.Shown.{row_shown}
use Rattle.csi_orchestrator.specs.Public.Catalog.{rows_of, by_name, place_noted, HasRoomForCalls, HasFewNotes}

-- the same, but that this call of the row at this place isn't noted yet
pub record IsReady (catalog : Catalog) (place : ℕ) (next : Option ℕ) : Type 0 where
  pub within : place < index_map_len catalog.rows
  pub rows : catalog.rows.entries ≡ map by_name (rows_of catalog)
  pub found : (other : ℕ) (row : Row) (kept : OpenCall) → IsAt (rows_of catalog) other row → row.open_call ≡ Some kept
      → (place_noted catalog kept.number.call ≡ Some other) ⊎ ((other ≡ place) × (next ≡ Some kept.number.call))
  pub new : (call : ℕ) → next ≡ Some call → place_noted catalog call ≡ None
  pub room : HasRoomForCalls catalog
  pub free : 0 < spare catalog.calls
  pub few : HasFewNotes catalog

-- this is where the first row of which this is so stands, if there is one
pub record IsPlaceIn (catalog : Catalog) (is_it : Row → Bool) (found : Option ℕ) : Type 0 where
  pub index : found ≡ position is_it (rows_of catalog)
  pub within : IfSome found (λ index. index < index_map_len catalog.rows)

-- what is noted was noted before
abbrev pub AreNotedBefore : Catalog → Catalog → Type 0
AreNotedBefore old new = (call place : ℕ) → place_noted new call ≡ Some place → place_noted old call ≡ Some place

-- the number of the call that is sent, if one is
abbrev pub outgoing_call_number : Option Outgoing → Option ℕ
outgoing_call_number next = option_map (λ (o : Outgoing). o.number.call) next

-- it comes right after this one
abbrev pub IsNumberedAfter : ℕ → Option Outgoing → Type 0
IsNumberedAfter last next = (call : ℕ) → outgoing_call_number next ≡ Some call → call ≡ last + 1

-- this is the call of a new row, if the row has one, and it isn't noted
pub record IsNextFor (catalog : Catalog) (own : Option OpenCall) (next : Option ℕ) : Type 0 where
  pub is : (kept : OpenCall) → own ≡ Some kept → next ≡ Some kept.number.call
  pub new : (call : ℕ) → next ≡ Some call → place_noted catalog call ≡ None

-- what is noted once the open call of the row at a place was, if there is one
abbrev pub IsNotedWith : ℕ → Option OpenCall → Catalog → Catalog → Type 0
IsNotedWith place None old new = new.calls ≡ old.calls
IsNotedWith place (Some kept) old new =
    Updates nat_eq old.calls new.calls kept.number.call (Some place) × (spare old.calls ≤ spare new.calls + 1)
    × (place_noted old kept.number.call ≡ None → index_map_len new.calls ≡ index_map_len old.calls + 1)

-- the row at the place was closed, if there is one
pub record IsClosedAt (place : ℕ) (old new : List Row) : Type 0 where
  pub long : length new ≡ length old
  pub there : (row : Row) → IsAt old place row → IsAt new place (without_call row)
  pub others : (other : ℕ) (row : Row) → IsAt old other row → (other ≡ place → ⊥) → IsAt new other row

-- the row at the place was changed by the loss of a node, if there is one
pub record IsLostAt (node : List ℕ) (place : ℕ) (old new : List Row) : Type 0 where
  pub changed : Row
  pub new_is : new ≡ set old place changed
  pub shown : (row : Row) → IsAt old place row → (changed.name ≡ row.name) × (changed.open_call ≡ None) × (row_shown changed ≡ row_at_loss node (row_shown row))
