-- What a controller's readers show of a state, and its record.
use Rattle.std.specs.Prelude.{◌≡◌, ◌≤◌, ℕ, ◌==◌, List, [], ◌∷◌, ◌++◌, filter, Option, Some, None, option_map, if◌then◌else◌}
use Rattle.csi_controller.specs.declared.row.ControllerRow.{ControllerRow}
use Rattle.csi_controller.specs.Model.State.{Volume, ControllerState, holdings_of}
use Rattle.csi_controller.specs.Public.State.{volume_with_id}
use Rattle.csi_types.specs.declared.holding.Holding.{Holding}
use Rattle.csi_controller.specs.Model.Shown.{volume_of_row, holdings_in_row, holdings_in}
use Rattle.csi_controller.specs.Public.Core.{IsSameRow}

-- a record's next id (0 once all were given), the greatest session that came, and its rows by rising id
pub record RecordParts : Type 0 where
  pub next_id : ℕ
  pub session : ℕ
  pub rows : List ControllerRow

-- id and capacity of a volume, unless it was deleted
abbrev pub shown_if_live : Option Volume → Option (ℕ × ℕ)
shown_if_live None = None
shown_if_live (Some volume) = if volume.is_live then Some (volume.id, volume.capacity) else None

-- the rows say the same, one by one
abbrev pub AreSameRows : List ControllerRow → List ControllerRow → Type 0
AreSameRows [] [] = Unit {0}
AreSameRows [] (copy ∷ copies) = ⊥
AreSameRows (row ∷ rows) [] = ⊥
AreSameRows (row ∷ rows) (copy ∷ copies) = IsSameRow row copy × AreSameRows rows copies

-- a copy of the row, if there is one
abbrev pub IsCopyOf : Option ControllerRow → Option ControllerRow → Type 0
IsCopyOf None None = Unit {0}
IsCopyOf None (Some copy) = ⊥
IsCopyOf (Some row) None = ⊥
IsCopyOf (Some row) (Some copy) = IsSameRow row copy

-- the holdings of all rows, by row, and then in the order of the row
abbrev pub attached_holdings : List ControllerRow → List Holding
attached_holdings [] = []
attached_holdings (row ∷ rows) = holdings_in_row row ++ attached_holdings rows

-- a holding of a volume of a lower id, or of the same volume
abbrev pub IsHeldBefore : Holding → Holding → Type 0
IsHeldBefore first second = first.volume ≤ second.volume

-- a list of holdings has each volume's, in order
abbrev pub HasHoldingsOf : ControllerState → List Holding → Type 0
HasHoldingsOf state all = (id : ℕ) → filter (λ holding. holding.volume == id) all ≡ holdings_of id state

-- a row is that of the volume of this id, with where it is held; none where no volume got the id
pub record IsRowOf (state : ControllerState) (id : ℕ) (row : Option ControllerRow) : Type 0 where
  pub volume : option_map volume_of_row row ≡ volume_with_id id state
  pub holdings : holdings_in row ≡ holdings_of id state
