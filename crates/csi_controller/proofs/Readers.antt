-- What the readers show, by the rows.
use Rattle.std.proofs.Common.{◌≡◌, ℕ, List, map, refl, sym, ◌∙◌, ap}
use Rattle.std.specs.Prelude.{Option, Some, None, option_map, find, ◌==◌}
use Rattle.csi_types.proofs.Searches.{find-of_map}
use Rattle.csi_types.specs.Model.Same.{same_text}
use Rattle.csi_controller.specs.declared.row.ControllerRow.{ControllerRow}
use Rattle.csi_controller.specs.Model.State.{Volume, ControllerState, volume_named}
use Rattle.csi_controller.specs.Model.Shown.{volume_of_row, holdings_in_row}
use Rattle.csi_controller.specs.Model.Core.{ControllerParts, Shows}
use Rattle.csi_controller.specs.Public.Core.{volume_holding}
use Rattle.csi_controller.specs.Public.Views.{shown_if_live, IsCopyOf, IsRowOf}
use Rattle.csi_controller.specs.Public.OneRow.{RowShown, row_shown}
use Rattle.csi_controller.specs.Private.OneRow.{row_if_live}

-- the volume of a name is that of the name's row
named-shown : (parts : ControllerParts) (state : ControllerState) (name : List ℕ) → Shows parts state → volume_named name state ≡ option_map volume_of_row (find (λ (r : ControllerRow). same_text r.name name) parts.rows)
named-shown parts state name shown =
    ap (find (λ (v : Volume). same_text v.name name)) (sym shown.shows.volumes) ∙ find-of_map (λ (v : Volume). same_text v.name name) volume_of_row parts.rows

-- what a name's row shows while it is live is what its volume does
pub volume-shown : (parts : ControllerParts) (state : ControllerState) (name : List ℕ) → Shows parts state → row_if_live (find (λ (r : ControllerRow). same_text r.name name) parts.rows) ≡ shown_if_live (volume_named name state)
volume-shown parts state name shown = sym (ap shown_if_live (named-shown parts state name shown) ∙ by (find (λ (r : ControllerRow). same_text r.name name) parts.rows))
  where
    by : (o : Option ControllerRow) → shown_if_live (option_map volume_of_row o) ≡ row_if_live o
    by None = refl
    by (Some row) = refl

-- the id of a name's row is that of its volume
pub id-shown : (parts : ControllerParts) (state : ControllerState) (name : List ℕ) → Shows parts state
    → option_map (λ (r : ControllerRow). r.id) (find (λ (r : ControllerRow). same_text r.name name) parts.rows) ≡ option_map (λ (v : Volume). v.id) (volume_named name state)
id-shown parts state name shown = sym (ap (option_map (λ (v : Volume). v.id)) (named-shown parts state name shown) ∙ by (find (λ (r : ControllerRow). same_text r.name name) parts.rows))
  where
    by : (o : Option ControllerRow) → option_map (λ (v : Volume). v.id) (option_map volume_of_row o) ≡ option_map (λ (r : ControllerRow). r.id) o
    by None = refl
    by (Some row) = refl

-- the id of a name's row, as it is shown, is the row's
pub id-in : (rows : List ControllerRow) (name : List ℕ)
    → option_map (λ (row : RowShown). row.volume.id) (find (λ (row : RowShown). same_text row.volume.name name) (map row_shown rows)) ≡ option_map (λ (r : ControllerRow). r.id) (find (λ (r : ControllerRow). same_text r.name name) rows)
id-in rows name = ap (option_map (λ (row : RowShown). row.volume.id)) (find-of_map (λ (row : RowShown). same_text row.volume.name name) row_shown rows) ∙ by (find (λ (r : ControllerRow). same_text r.name name) rows)
  where
    by : (o : Option ControllerRow) → option_map (λ (row : RowShown). row.volume.id) (option_map row_shown o) ≡ option_map (λ (r : ControllerRow). r.id) o
    by None = refl
    by (Some row) = refl

-- a copy of the row of an id is of the volume of that id
copy-shown : (state : ControllerState) (id : ℕ) (row copy : Option ControllerRow) → IsCopyOf row copy → IsRowOf state id row → IsRowOf state id copy
copy-shown state id None None same is = is
copy-shown state id None (Some c) same is = absurd same
copy-shown state id (Some r) None same is = absurd same
copy-shown state id (Some r) (Some c) same is =
    record {
      volume = ap Some same.volume ∙ is.volume;
      holdings = held ∙ is.holdings;
    }
  where
    held : holdings_in_row c ≡ holdings_in_row r
    held = ap (λ n. map (volume_holding n) c.holdings.items) (ap (λ (v : Volume). v.id) same.volume) ∙ ap (map (volume_holding r.id)) same.items

-- a copy of the row of an id is the row of that id in the state, and there is none where no volume has the id
pub row-shown : (parts : ControllerParts) (state : ControllerState) (id : ℕ) (copy : Option ControllerRow) → Shows parts state → IsCopyOf (find (λ (r : ControllerRow). r.id == id) parts.rows) copy → IsRowOf state id copy
row-shown parts state id copy shown same =
    copy-shown state id (find (λ (r : ControllerRow). r.id == id) parts.rows) copy same
    (record {
      volume = sym (ap (find (λ (v : Volume). v.id == id)) (sym shown.shows.volumes) ∙ find-of_map (λ (v : Volume). v.id == id) volume_of_row parts.rows);
      holdings = shown.shows.holdings id;
    })
