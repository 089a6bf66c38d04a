-- The rows of a catalog, and how its maps belong to them.
use Rattle.std.specs.Prelude.{◌≡◌, ℕ, ◌+◌, ◌<◌, ◌≤◌, List, length, map, nat_eq, Option, Some}
use Rattle.indexmap.specs.IndexMap.{values, get, spare, index_map_len}
use Rattle.csi_types.specs.Public.Places.{IsAt}
use Rattle.csi_orchestrator.specs.declared.row.OpenCall.{OpenCall}
use Rattle.csi_orchestrator.specs.declared.row.Row.{Row}
use Rattle.csi_orchestrator.specs.declared.catalog.Catalog.{Catalog}
use Rattle.csi_orchestrator.specs.Public.Bounds.{AreFew}

-- the rows in order
abbrev pub rows_of : Catalog → List Row
rows_of catalog = values catalog.rows

-- a row under its name
abbrev pub by_name : Row → List ℕ × Row
by_name row = (row.name, row)

-- the place that is noted for a call
abbrev pub place_noted : Catalog → ℕ → Option ℕ
place_noted catalog call = get nat_eq catalog.calls call

-- more calls can be noted than there are rows
abbrev pub HasRoomForCalls : Catalog → Type 0
HasRoomForCalls catalog = 0 < length (rows_of catalog) → length (rows_of catalog) < index_map_len catalog.calls + spare catalog.calls

-- for each open call its row's place is noted, beside calls that aren't open any more
pub record IsNoted (catalog : Catalog) : Type 0 where
  pub found : (place : ℕ) (row : Row) (kept : OpenCall) → IsAt (rows_of catalog) place row → row.open_call ≡ Some kept → place_noted catalog kept.number.call ≡ Some place
  pub room : HasRoomForCalls catalog

-- few calls are noted for so many rows
abbrev pub HasFewNotes : Catalog → Type 0
HasFewNotes catalog = AreFew (index_map_len catalog.calls) (length (rows_of catalog))

-- each row stands under its own name, its open call is noted, there is room for another call, and few calls are noted
pub record IsIndexed (catalog : Catalog) : Type 0 where
  pub rows : catalog.rows.entries ≡ map by_name (rows_of catalog)
  pub noted : IsNoted catalog
  pub free : 0 < length (rows_of catalog) → 0 < spare catalog.calls
  pub few : HasFewNotes catalog

-- no call after this one is noted
abbrev pub AreUpTo : ℕ → Catalog → Type 0
AreUpTo last catalog = (call place : ℕ) → place_noted catalog call ≡ Some place → call ≤ last
