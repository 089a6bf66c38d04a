-- What a call changes of a controller's rows. This profile's own.
use Rattle.std.specs.Prelude.{◌≡◌, ◌≢◌, ℕ, ◌==◌, List, filter, find, slice_get, Option, Some, None, if◌then◌else◌}
use Rattle.csi_types.specs.declared.number.Number.{Number}
use Rattle.csi_fence.specs.Model.Fence.{begins}
use Rattle.csi_controller.specs.declared.row.ControllerRow.{ControllerRow}
use Rattle.csi_controller.specs.Model.Core.{ControllerParts}
use Rattle.csi_controller.specs.Public.Views.{IsCopyOf}

-- the row of an id
abbrev pub row_by_id : ℕ → List ControllerRow → Option ControllerRow
row_by_id id rows = find (λ row. row.id == id) rows

-- the greatest session that came, once a call of this number did
abbrev pub session_after : ℕ → Number → ℕ
session_after session number = if begins session number then number.session else session

-- the rows that stay then: where the call begins a session, those of live volumes
abbrev pub staying : ℕ → Number → List ControllerRow → List ControllerRow
staying session number rows = if begins session number then filter (λ row. row.live) rows else rows

-- the row of this id says what it said; or there was none, and is none
abbrev pub IsSameAt : ℕ → List ControllerRow → List ControllerRow → Type 0
IsSameAt id old new = IsCopyOf (row_by_id id old) (row_by_id id new)

-- a call of this number changed or made the row of one volume, or of none: then that row has the call's number now, and hadn't before.
-- Each other row that stays says what it said, and a next id comes with the row of the volume that was made
pub record Changes (row : Option ℕ) (number : Number) (old new : ControllerParts) : Type 0 where
  pub session : new.session ≡ session_after old.session number
  pub next_id : row ≡ None → new.next_id ≡ old.next_id
  pub others : (id : ℕ) → (row ≡ Some id → ⊥) → IsSameAt id (staying old.session number old.rows) new.rows
  pub put : (id : ℕ) → row ≡ Some id → (there : ControllerRow) × (row_by_id id new.rows ≡ Some there) × (there.last ≡ number)
  pub fresh : (id : ℕ) (was : ControllerRow) → row ≡ Some id → row_by_id id old.rows ≡ Some was → was.last ≢ number

-- so it did, and the row that it changed or made stands at this place
abbrev pub ChangesAt : Option ℕ → Number → ControllerParts → ControllerParts → Type 0
ChangesAt None number old new = Changes None number old new
ChangesAt (Some place) number old new = (row : ControllerRow) × (slice_get new.rows place ≡ Some row) × Changes (Some row.id) number old new
