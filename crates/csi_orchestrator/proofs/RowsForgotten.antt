-- The maps of a catalog once rows were forgotten, and once a node was lost.
use Rattle.csi_orchestrator.proofs.Words.{◌≡◌, ◌<◌, ◌≤◌, ◌+◌, ◌*◌, ℕ, zero, suc, List, [], ◌∷◌, ◌++◌, take, drop, Bool}
use Rattle.csi_orchestrator.proofs.Words.{not, length, map, refl, sym, ◌∙◌, ap, subst, arith, Some, None, filter}
use Rattle.csi_orchestrator.proofs.Words.{slice_get, AllByRecursion, append-nil, IsAt, IndexMap, spare, index_map_len}
use Rattle.csi_orchestrator.proofs.Words.{Catalog, Row, RowShown, is_row_forgotten, remembered, row_at_loss, IsLostAt}
use Rattle.csi_orchestrator.proofs.Words.{rows_of, by_name, HasRoomForCalls, IsIndexed, row_shown}
use Rattle.csi_orchestrator.proofs.Lemmas.{length-map, length-set, take_all, drop_all, none-some, get_or_from_slice_get}
use Rattle.csi_orchestrator.proofs.Lemmas.{same-at, map_over_more-shown, each-at, each-filter, each-map, filter-of_map}
use Rattle.csi_orchestrator.proofs.Lemmas.{filter-no_longer}
use Rattle.csi_orchestrator.proofs.ListPlaces.{at-of_get}
use Rattle.csi_orchestrator.proofs.RowsLost.{lost-name, lost-closed}
use Rattle.csi_orchestrator.proofs.RowsUnderNames.{catalog_with, rows-set}

-- a row that is kept is remembered
abbrev stays : Row → Bool
stays row = not (is_row_forgotten (row_shown row))

-- the rows that stay
rows-kept : (old new : Catalog) → new.rows.entries ≡ filter (λ (e : List ℕ × Row). not (is_row_forgotten (row_shown e.1))) old.rows.entries → rows_of new ≡ filter stays (rows_of old)
rows-kept old new rows = ap (map (λ (e : List ℕ × Row). e.1)) rows ∙ sym (filter-of_map stays (λ (e : List ℕ × Row). e.1) old.rows.entries)

-- are those that are remembered
pub rows-remembered : (old new : Catalog) → new.rows.entries ≡ filter (λ (e : List ℕ × Row). not (is_row_forgotten (row_shown e.1))) old.rows.entries → map row_shown (rows_of new) ≡ remembered (map row_shown (rows_of old))
rows-remembered old new rows = ap (map row_shown) (rows-kept old new rows) ∙ sym (filter-of_map (λ (r : RowShown). not (is_row_forgotten r)) row_shown (rows_of old))

-- each stands under its name, and no call is noted
pub remembered-indexed : (old new : Catalog) → IsIndexed old → AllByRecursion (λ (row : Row). row.open_call ≡ None) (rows_of old)
    → new.rows.entries ≡ filter (λ (e : List ℕ × Row). not (is_row_forgotten (row_shown e.1))) old.rows.entries → new.calls.entries ≡ []
    → index_map_len old.calls + spare old.calls ≤ spare new.calls → IsIndexed new
remembered-indexed old new indexed closed rows empty room = grind (arith, rows-kept, each-filter, filter-no_longer, filter-of_map, none-some, each-at)

-- ---- a node was lost

-- the rows before this place are changed so, and the others are as they were
pub record LostBefore (node : List ℕ) (old : Catalog) (k : ℕ) (now : Catalog) : Type 0 where
  pub rows : map row_shown (rows_of now) ≡ map (row_at_loss node) (take k (map row_shown (rows_of old))) ++ drop k (map row_shown (rows_of old))
  pub long : length (rows_of now) ≡ length (rows_of old)
  pub calls : now.calls ≡ old.calls
  pub names : now.rows.entries ≡ map by_name (rows_of now)

-- one row more
pub lost-more : (node : List ℕ) (old now then : Catalog) (k : ℕ) → LostBefore node old k now → k < length (rows_of old) → IsLostAt node k (rows_of now) (rows_of then) → then.calls ≡ now.calls
    → (now.rows.entries ≡ map by_name (rows_of now) → then.rows.entries ≡ map by_name (rows_of then)) → LostBefore node old (k + 1) then
lost-more node old now then k before inside lost calls names =
    let long = before.long in
    let within : k < length (rows_of now) = omega (arith, long, inside) in
    let row = slice_some (rows_of now) k within in
    let at = at-of_get (rows_of now) k row.0 row.1 in
    record {
      rows =
          ap (map row_shown) lost.new_is
          ∙ map_over_more-shown row_shown (row_at_loss node) (rows_of old) (rows_of now) k row.0 lost.changed inside before.rows within (sym (get_or_from_slice_get (rows_of now) k row.0 row.0 row.1)) (lost.shown row.0 at).2;
      long = ap length lost.new_is ∙ length-set (rows_of now) k lost.changed ∙ before.long;
      calls = calls ∙ before.calls;
      names = names before.names;
    }
  where
    slice_some : (rows : List Row) (i : ℕ) → i < length rows → (row : Row) × (slice_get rows i ≡ Some row)
    slice_some [] i inside = absurd (omega arith)
    slice_some (r ∷ rs) zero inside = (r, refl)
    slice_some (r ∷ rs) (suc i) inside = slice_some rs i (omega arith)

-- after all, each row is changed so
pub lost-all : (node : List ℕ) (old now : Catalog) (k : ℕ) → LostBefore node old k now → length (rows_of old) ≤ k → map row_shown (rows_of now) ≡ map (row_at_loss node) (map row_shown (rows_of old))
lost-all node old now k before over =
    let long = length-map (rows_of old) row_shown in
    before.rows ∙ (λ i. map (row_at_loss node) (take_all k (map row_shown (rows_of old)) (omega (arith, long, over)) i) ++ drop_all k (map row_shown (rows_of old)) (omega (arith, long, over)) i)
    ∙ append-nil (map (row_at_loss node) (map row_shown (rows_of old)))

-- the rows stand under their names, and no call is open
pub lost-indexed : (node : List ℕ) (old now : Catalog) (k : ℕ) → IsIndexed old → LostBefore node old k now → length (rows_of old) ≤ k → IsIndexed now
lost-indexed node old now k indexed before over =
    let long = before.long in
    let room : HasRoomForCalls now =
    λ some.
    let least = subst (λ (m : IndexMap ℕ ℕ _). length (rows_of old) < index_map_len m + spare m) (sym before.calls) ((indexed.noted).room (omega (arith, long, some))) in
    omega (arith, long, least) in
    record {
      rows = before.names;
      noted = record { found = λ place row own at is_open. absurd (none-some own (sym (closed place row at) ∙ is_open)); room = room };
      free = λ some. subst (λ (m : IndexMap ℕ ℕ _). 0 < spare m) (sym before.calls) (indexed.free (omega (arith, long, some)));
      few = let few = subst (λ (m : IndexMap ℕ ℕ _). index_map_len m ≤ 2 * length (rows_of old) + 1) (sym before.calls) indexed.few in omega (arith, few, long);
    }
  where
    any-each : (rows : List RowShown) → AllByRecursion (λ (r : RowShown). Unit {0}) rows
    any-each [] = tt
    any-each (r ∷ rs) = (tt, any-each rs)

    each-unshown : (rows : List Row) → AllByRecursion (λ (r : RowShown). r.open_call ≡ None) (map row_shown rows) → AllByRecursion (λ (r : Row). r.open_call ≡ None) rows
    each-unshown [] all = tt
    each-unshown (r ∷ rs) all = (all.0, each-unshown rs all.1)

    closed : (place : ℕ) (row : Row) → IsAt (rows_of now) place row → row.open_call ≡ None
    closed place row at =
        let shown = lost-all node old now k before over in
        let all = subst (AllByRecursion (λ (r : RowShown). r.open_call ≡ None)) (sym shown)
        (each-map (λ (r : RowShown). Unit {0}) (λ (r : RowShown). r.open_call ≡ None) (row_at_loss node) (map row_shown (rows_of old)) (λ r any. lost-closed node r) (any-each (map row_shown (rows_of old)))) in
        each-at (λ (r : Row). r.open_call ≡ None) (rows_of now) place row (each-unshown (rows_of now) all) at

-- it keeps its name
pub kept-name : (node : List ℕ) (row changed : Row) → row_shown changed ≡ row_at_loss node (row_shown row) → changed.name ≡ row.name
kept-name node row changed shown = ap (λ (r : RowShown). r.name) shown ∙ lost-name node (row_shown row)

-- the row at a place
pub lost-at : (node : List ℕ) (catalog : Catalog) (place : ℕ) (row changed : Row) → slice_get (rows_of catalog) place ≡ Some row → row_shown changed ≡ row_at_loss node (row_shown row)
    → IsLostAt node place (rows_of catalog) (rows_of (catalog_with catalog place changed))
lost-at node catalog place row changed at shown =
    record {
      changed = changed;
      new_is = rows-set catalog place changed;
      shown = λ other is.
          let same = same-at (rows_of catalog) place row other (at-of_get (rows_of catalog) place row at) is in
          subst (λ (r : Row). (changed.name ≡ r.name) × (changed.open_call ≡ None) × (row_shown changed ≡ row_at_loss node (row_shown r))) same
          (kept-name node row changed shown, ap (λ (r : RowShown). r.open_call) shown ∙ lost-closed node (row_shown row), shown);
    }
