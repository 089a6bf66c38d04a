-- What a call changes of a node's rows. This profile's own.
use Rattle.std.specs.Prelude.{◌≡◌, ◌≢◌, ℕ, ◌==◌, nat_lt, if◌then◌else◌, List, [], ◌∷◌, filter, find, slice_get, Option, Some, None, is_some}
use Rattle.csi_types.specs.declared.number.Number.{Number}
use Rattle.csi_fence.specs.Model.Fence.{begins}
use Rattle.csi_node.specs.Model.OneRow.{NodeRowShown}
use Rattle.csi_node.specs.Model.Record.{NodeParts, parts}

-- the row of an id
abbrev pub row_by_id : ℕ → List NodeRowShown → Option NodeRowShown
row_by_id id rows = find (λ row. row.id == id) rows

-- the row takes the place of the one of its id, or goes where its id belongs
abbrev pub put_row : NodeRowShown → List NodeRowShown → List NodeRowShown
put_row row [] = row ∷ []
put_row row (other ∷ others) =
    if nat_lt other.id row.id then other ∷ put_row row others
    else if other.id == row.id then row ∷ others
    else row ∷ other ∷ others

-- the greatest session that came, once a call of this number did
abbrev pub session_after : ℕ → Number → ℕ
session_after session number = if begins session number then number.session else session

-- the rows that stay then: where the call begins a session, those of staged volumes
abbrev pub staying : ℕ → Number → List NodeRowShown → List NodeRowShown
staying session number rows = if begins session number then filter (λ row. is_some row.staged) rows else rows

-- a call of this number put in the row of one volume, or of none: then that row has the call's number, and hadn't before. All other rows
-- that stay are as they were
pub record Changes (row : Option ℕ) (number : Number) (old new : NodeParts) : Type 0 where
  pub session : new.session ≡ session_after old.session number
  pub same : row ≡ None → parts new.rows ≡ staying old.session number (parts old.rows)
  pub put : (id : ℕ) → row ≡ Some id → (there : NodeRowShown) × (there.id ≡ id) × (there.kept.number ≡ number) × (parts new.rows ≡ put_row there (staying old.session number (parts old.rows)))
  pub fresh : (id : ℕ) (was : NodeRowShown) → row ≡ Some id → row_by_id id (parts old.rows) ≡ Some was → was.kept.number ≢ number

-- so it did, and the row that it put in stands at this place
abbrev pub ChangesAt : Option ℕ → Number → NodeParts → NodeParts → Type 0
ChangesAt None number old new = Changes None number old new
ChangesAt (Some place) number old new = (row : NodeRowShown) × (slice_get (parts new.rows) place ≡ Some row) × Changes (Some row.id) number old new
