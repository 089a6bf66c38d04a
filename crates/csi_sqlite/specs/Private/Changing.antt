-- What changing the row of a key comes to, by whether there is one. This profile's own.
use Rattle.std.specs.Prelude.{◌≢◌, ℕ, Bool, true, false, List, ◌∷◌}
use Rattle.sqlite.specs.State.{State}
use Rattle.csi_sqlite.specs.Public.Rows.{KeyedRow, without}
use Rattle.csi_sqlite.specs.Public.Statements.{Changes}

-- the rows then
abbrev pub changed_rows : Bool → List ℕ → List ℕ → List KeyedRow → List KeyedRow
changed_rows true key value rows = record { key = key; value = value } ∷ without key rows
changed_rows false key value rows = without key rows

-- some row is changed, or none
abbrev pub ChangesOrNot : Bool → List ℕ → List ℕ → State → State → Type 0
ChangesOrNot true key value before after = (count : ℕ) × (count ≢ 0) × Changes key value count before after
ChangesOrNot false key value before after = Changes key value 0 before after
