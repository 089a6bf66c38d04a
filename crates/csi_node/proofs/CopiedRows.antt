-- What a row that was found, or copied, shows.
use Rattle.std.proofs.Common.{◌≡◌, ℕ, List, [], ◌∷◌, refl, sym, ◌∙◌, ap, subst, None, Result, Ok, Err, get_or, arith}
use Rattle.std.specs.Prelude.{OnErr, Option, Some, option_map, All, position, ◌==◌}
use Rattle.std.specs.List.{AllZip}
use Rattle.std.proofs.lemmas.Option.{none-some}
use Rattle.csi_node.specs.declared.row.NodeRow.{NodeRow}
use Rattle.csi_node.specs.Model.State.{NodeState, row_with_id}
use Rattle.csi_node.specs.Model.Shown.{RowsShow, row_in, answered_of_row}
use Rattle.csi_node.specs.Model.OneRow.{node_row_shown, NodeRowShown}
use Rattle.csi_node.specs.Model.Record.{NodeParts, parts, Shows}
use Rattle.csi_node.proofs.ShownAfter.{ShowsAll, answered_of, row_of, row_of-shown, kept-shown, kept-found, all-from_shows, shows-from_all}
use Rattle.std.proofs.lemmas.List.{length-map}
use Rattle.csi_types.proofs.Members.{among-find, one-of_all}
use Rattle.csi_fence.proofs.RowsThere.{found-there, shown-at}
use Rattle.csi_node.specs.Public.OneRow.{IsSoundRow}

-- rows of which each is a copy show what the rows show that were copied
pub each-copied : (rows copies : List NodeRow) → AllZip (λ (row copy : NodeRow). node_row_shown copy ≡ node_row_shown row) rows copies → parts copies ≡ parts rows
each-copied [] [] same = refl
each-copied [] (copy ∷ copies) same = absurd same
each-copied (row ∷ rows) [] same = absurd same
each-copied (row ∷ rows) (copy ∷ copies) same = let first = same.0 in let rest = each-copied rows copies same.1 in λ i. first i ∷ rest i

-- parts whose rows are as they were, with the same session, show what they showed
pub shows-copy : (old new : NodeParts) (state : NodeState) → Shows old state → parts new.rows ≡ parts old.rows → new.session ≡ old.session → Shows new state
shows-copy old new state shows same session =
    record { shows = shows-from_all new.rows state (subst (λ l. ShowsAll l state) (sym same) (all-from_shows old.rows state shows.shows)); session = session ∙ shows.session }

-- what is so anyway is so of an error
pub err_holds : {T E : Type 0} (r : Result T E) {P : Type 0} → P → OnErr r P
err_holds (Ok x) h = tt
err_holds (Err e) h = h

-- a copy of the row that is found shows what that shows
pub copy-found : (rows : List NodeRow) (id : ℕ) (row copy : NodeRow) → Some (node_row_shown row) ≡ row_of id (parts rows) → node_row_shown copy ≡ node_row_shown row → Some (node_row_shown copy) ≡ option_map node_row_shown (row_in id rows)
copy-found rows id row copy found same = ap Some same ∙ found ∙ row_of-shown id rows

-- where none is found there is none
pub none-found : (rows : List NodeRow) (id : ℕ) → None ≡ row_of id (parts rows) → None ≡ option_map node_row_shown (row_in id rows)
none-found rows id found = found ∙ row_of-shown id rows

-- where one is found there is one
pub found-clash : (rows : List NodeRow) (id : ℕ) (row : NodeRow) → Some (node_row_shown row) ≡ row_of id (parts rows) → row_in id rows ≡ None → ⊥
found-clash rows id row found none = none-some (node_row_shown row) (sym (found ∙ row_of-shown id rows ∙ ap (option_map node_row_shown) none))

-- what a copy of a row keeps is what the state keeps
pub row-shows : (rows : List NodeRow) (state : NodeState) (id : ℕ) → RowsShow rows state → (row : Option NodeRow) → option_map node_row_shown row ≡ option_map node_row_shown (row_in id rows)
    → option_map answered_of_row row ≡ row_with_id id state
row-shows rows state id shows row same =
    sym (kept-shown row) ∙ ap (option_map answered_of) (same ∙ sym (row_of-shown id rows)) ∙ kept-found (parts rows) state (all-from_shows rows state shows) id

-- the row at the place of an id is found by it
pub there-found : (rows : List NodeRow) (id place : ℕ) (row : NodeRow) → row ≡ get_or rows place row → Some place ≡ position (λ (r : NodeRowShown). r.id == id) (parts rows) → row_of id (parts rows) ≡ Some (node_row_shown row)
there-found rows id place row is at =
    let found = found-there (λ (r : NodeRowShown). r.id == id) (parts rows) place at in
    let many = length-map rows node_row_shown in
    found.0 ∙ shown-at node_row_shown rows place row is (omega (arith, many, found.1))

-- the row of an id keeps the rules of a row, where each does
pub there-sound : (rows : List NodeRowShown) (id : ℕ) (row : NodeRowShown) → All IsSoundRow rows → row_of id rows ≡ Some row → IsSoundRow row
there-sound rows id row each found = one-of_all IsSoundRow rows row each (among-find (λ (r : NodeRowShown). r.id == id) rows row found)
