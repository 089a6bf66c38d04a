-- A controller's rows as they are shown, their rules, and the state that they show.
use Rattle.std.proofs.Common.{◌≡◌, ℕ, List, map, refl, ◌∙◌, ap, ◌<◌, [], ◌∷◌, ◌++◌, Bool, cond}
use Rattle.std.proofs.lemmas.Bool.{lt-ltb}
use Rattle.std.specs.Prelude.{Option, Some, None, option_map, find, ◌==◌}
use Rattle.std.specs.List.{AllByRecursion}
use Rattle.csi_types.proofs.Maps.{map-twice}
use Rattle.csi_types.proofs.Searches.{find-of_map}
use Rattle.csi_types.specs.Public.Places.{AtMostOne}
use Rattle.csi_types.specs.Model.Same.{same_text}
use Rattle.csi_fence.specs.Public.Rows.{AreRising, RowsState, put_row}
use Rattle.csi_fence.proofs.RisingRows.{once-rise, rows_rise}
use Rattle.csi_controller.specs.Model.State.{Volume, ControllerState, holdings_of}
use Rattle.csi_controller.specs.declared.row.ControllerRow.{ControllerRow}
use Rattle.csi_controller.specs.Model.Shown.{holdings_in, volume_of_row}
use Rattle.csi_controller.specs.Public.OneRow.{RowShown, row_shown}
use Rattle.csi_controller.specs.Public.Plan.{controller_plan, IsSoundBy}
use Rattle.csi_controller.proofs.Holdings.{held_in}

-- a row above all others goes last
pub put-last : {S : Type 0} (id : S → ℕ) (rows : List S) (new : S) → AllByRecursion (λ (row : S). id row < id new) rows → put_row id new rows ≡ rows ++ new ∷ []
put-last id [] new above = refl
put-last {S} id (row ∷ rows) new above =
    ap (λ (b : Bool). cond b (row ∷ put_row id new rows) (cond (id row == id new) (new ∷ rows) (new ∷ row ∷ rows))) (lt-ltb (id row) (id new) above.0)
    ∙ ap (λ (l : List S). row ∷ l) (put-last id rows new above.1)

-- a controller's rows, with the next id and the greatest session that came
abbrev pub ControllerRows : Type 0
ControllerRows = RowsState ℕ RowShown

-- the volume of a row
abbrev pub volume_in : RowShown → Volume
volume_in row = row.volume

-- the volumes of rows as they are shown are the rows'
pub volumes-shown : (rows : List ControllerRow) → map volume_in (map row_shown rows) ≡ map volume_of_row rows
volumes-shown rows = map-twice volume_in row_shown volume_of_row rows (λ r. refl)

-- and so is what is held of an id
pub held-shown : (rows : List ControllerRow) (id : ℕ) → held_in (find (λ (r : RowShown). r.volume.id == id) (map row_shown rows)) ≡ holdings_in (find (λ (r : ControllerRow). r.id == id) rows)
held-shown rows id = ap held_in (find-of_map (λ (r : RowShown). r.volume.id == id) row_shown rows) ∙ by (find (λ (r : ControllerRow). r.id == id) rows)
  where
    by : (o : Option ControllerRow) → held_in (option_map row_shown o) ≡ holdings_in o
    by None = refl
    by (Some row) = refl

-- rows stand by rising id, no name twice, and each keeps the rules of a row
pub record AreRowsSound (old : ControllerRows) : Type 0 where
  pub rising : AreRising controller_plan.id old.rows
  pub unique : (name : List ℕ) → AtMostOne (λ (row : RowShown). same_text row.volume.name name) old.rows
  pub each : AllByRecursion (IsSoundBy old.own) old.rows

-- they show the state
pub record RowsShowAll (old : ControllerRows) (state : ControllerState) : Type 0 where
  pub next : old.own ≡ state.next_id
  pub session : old.session ≡ state.session
  pub volumes : map volume_in old.rows ≡ state.volumes
  pub holdings : (id : ℕ) → held_in (find (λ (row : RowShown). row.volume.id == id) old.rows) ≡ holdings_of id state

-- each id has one row
pub one-id : (old : ControllerRows) → AreRowsSound old → (id : ℕ) → AtMostOne (λ (row : RowShown). row.volume.id == id) old.rows
one-id old sound id = once-rise controller_plan.id old.rows (rows_rise controller_plan.id old.rows sound.rising) id
