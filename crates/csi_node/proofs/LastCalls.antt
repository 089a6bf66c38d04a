-- What is kept of a call changes the row of its volume, and nothing else.
use Rattle.std.proofs.Common.{◌≡◌, ◌⊎◌, ℕ, List, [], ◌∷◌, Bool, true, false, cond, not, refl, sym, ◌∙◌, ap, subst, inl, inr}
use Rattle.std.specs.Prelude.{Option, Some, None, option_map, find, filter, ◌==◌}
use Rattle.std.proofs.lemmas.Bool.{eq-eqb, eqb-true, not-true}
use Rattle.csi_types.specs.Model.Members.{IsAmong}
use Rattle.csi_types.proofs.Members.{among-either, among-map, none_passes}
use Rattle.csi_types.proofs.Searches.{find-filter, find-append_one, find-map, find-passes}
use Rattle.csi_types.proofs.Filters.{filter-append_one, filter-filter, filter-map}
use Rattle.std.proofs.lemmas.List.{map-append}
use Rattle.csi_types.proofs.Maps.{map-map}
use Rattle.csi_fence.specs.Model.Fence.{Kept}
use Rattle.csi_node.specs.Model.State.{NodeState, AnsweredVolume, row_with_id}
use Rattle.csi_node.specs.Model.Table.{Change, Stays, Stages, Unstages, Publishes, Unpublishes, changed}
use Rattle.csi_node.specs.Model.Fenced.{kept_in, kept_rows, keep}
use Rattle.csi_node.specs.Public.Laws.{is_another, HasAtMostOneMore}
use Rattle.csi_node.specs.Public.View.{kept_in_row}

-- what is kept changes nothing of what is staged
pub keep-staged : (volume : Option ℕ) (kept : Kept) (state : NodeState) → (keep volume kept state).staged ≡ state.staged
keep-staged None kept state = refl
keep-staged (Some id) kept state = refl

-- what is kept changes nothing of what is published
pub keep-published : (volume : Option ℕ) (kept : Kept) (state : NodeState) → (keep volume kept state).published ≡ state.published
keep-published None kept state = refl
keep-published (Some id) kept state = refl

-- what is kept changes nothing of the session
pub keep-session : (volume : Option ℕ) (kept : Kept) (state : NodeState) → (keep volume kept state).session ≡ state.session
keep-session None kept state = refl
keep-session (Some id) kept state = refl

-- a change isn't one of the session
pub changed-session : (state : NodeState) (change : Change) → (changed state change).session ≡ state.session
changed-session state Stays = refl
changed-session state (Stages staged) = refl
changed-session state (Unstages id) = refl
changed-session state (Publishes published) = refl
changed-session state (Unpublishes id target) = refl

-- a change isn't one of the rows
pub changed-rows : (state : NodeState) (change : Change) → (changed state change).rows ≡ state.rows
changed-rows state Stays = refl
changed-rows state (Stages staged) = refl
changed-rows state (Unstages id) = refl
changed-rows state (Publishes published) = refl
changed-rows state (Unpublishes id target) = refl

-- what is kept in a row leaves its id
pub kept_in-id : (id : ℕ) (kept : Kept) (row : AnsweredVolume) → (kept_in id kept row).id ≡ row.id
kept_in-id id kept row = by (row.id == id)
  where
    by : (b : Bool) → (cond b (record row { kept = kept }) row).id ≡ row.id
    by true = refl
    by false = refl

-- what is kept in a row of a volume leaves the same volumes in the rows, or one more at the end
rows_grown : (id : ℕ) (kept : Kept) (rows : List AnsweredVolume) (o : Option AnsweredVolume) → HasAtMostOneMore rows (kept_rows id kept rows o)
rows_grown id kept rows None = inr (id, map-append (λ (row : AnsweredVolume). row.id) rows ((record { id = id; kept = kept }) ∷ []))
rows_grown id kept rows (Some row) = inl (map-map (λ (row : AnsweredVolume). row.id) (kept_in id kept) rows (kept_in-id id kept))

-- what is kept of a call leaves the same volumes in the rows, or one more at the end
pub keep-rows : (volume : Option ℕ) (kept : Kept) (state : NodeState) → HasAtMostOneMore state.rows (keep volume kept state).rows
keep-rows None kept state = inl refl
keep-rows (Some id) kept state = rows_grown id kept state.rows (row_with_id id state)

-- a row of another id stays as it was
kept_in-other : (id : ℕ) (kept : Kept) (row : AnsweredVolume) → not (row.id == id) ≡ true → kept_in id kept row ≡ row
kept_in-other id kept row h = let other : (row.id == id) ≡ false = not-true (row.id == id) h in rw other refl

-- what is kept for a volume leaves the rows of all others as they were
pub other_rows : (id : ℕ) (kept : Kept) (rows : List AnsweredVolume) (o : Option AnsweredVolume)
    → filter (λ (row : AnsweredVolume). not (row.id == id)) (kept_rows id kept rows o) ≡ filter (λ (row : AnsweredVolume). not (row.id == id)) rows
other_rows id kept rows None =
    let self : (id == id) ≡ true = eq-eqb id id refl in
    filter-append_one (λ (row : AnsweredVolume). not (row.id == id)) rows (record { id = id; kept = kept }) (rw self refl)
other_rows id kept rows (Some row) =
    filter-map (λ (row : AnsweredVolume). not (row.id == id)) (kept_in id kept) rows (λ row. ap (λ n. not (n == id)) (kept_in-id id kept row)) (kept_in-other id kept)

-- what is kept of a call leaves the rows of all volumes but the call's as they were
pub keep-others : (volume : Option ℕ) (kept : Kept) (state : NodeState)
    → filter (λ row. is_another volume row.id) (keep volume kept state).rows ≡ filter (λ row. is_another volume row.id) state.rows
keep-others None kept state = refl
keep-others (Some id) kept state = other_rows id kept state.rows (row_with_id id state)

-- the row of the call's volume keeps the call
row_kept : (id : ℕ) (kept : Kept) (rows : List AnsweredVolume) (o : Option AnsweredVolume) → find (λ (row : AnsweredVolume). row.id == id) rows ≡ o
    → option_map (λ (row : AnsweredVolume). row.kept) (find (λ (row : AnsweredVolume). row.id == id) (kept_rows id kept rows o)) ≡ Some kept
row_kept id kept rows None h =
    let self : (id == id) ≡ true = eq-eqb id id refl in
    ap (option_map (λ (row : AnsweredVolume). row.kept)) (find-append_one (λ (row : AnsweredVolume). row.id == id) rows (record { id = id; kept = kept }) self h)
row_kept id kept rows (Some row) h =
    let moved = find-map (λ (row : AnsweredVolume). row.id == id) (kept_in id kept) rows (λ row. ap (λ n. n == id) (kept_in-id id kept row)) in
    let own : (row.id == id) ≡ true = find-passes (λ (row : AnsweredVolume). row.id == id) rows row h in
    let here : (kept_in id kept row).kept ≡ kept = rw own refl in
    ap (option_map (λ (row : AnsweredVolume). row.kept)) (moved ∙ ap (option_map (kept_in id kept)) h) ∙ ap Some here

-- the row of a volume keeps what is kept for it
pub keep-own : (id : ℕ) (kept : Kept) (state : NodeState) → kept_in_row id (keep (Some id) kept state) ≡ Some kept
keep-own id kept state = row_kept id kept state.rows (row_with_id id state) refl

-- where two lists have the same of the volumes that pass a test, they have the same of each of these
module _ {X : Type 0} (volume : X → ℕ) (q : ℕ → Bool) (k : ℕ) (passes : q k ≡ true) where
  within : (x : X) → (volume x == k) ≡ true → q (volume x) ≡ true
  within x own = ap q (eqb-true (volume x) k own) ∙ passes

  pub filter-others : (old new : List X) → filter (λ x. q (volume x)) new ≡ filter (λ x. q (volume x)) old → filter (λ x. volume x == k) new ≡ filter (λ x. volume x == k) old
  filter-others old new same =
      sym (filter-filter (λ x. volume x == k) (λ x. q (volume x)) new within) ∙ ap (filter (λ x. volume x == k)) same ∙ filter-filter (λ x. volume x == k) (λ x. q (volume x)) old within

  -- and find the same
  pub find-others : (old new : List X) → filter (λ x. q (volume x)) new ≡ filter (λ x. q (volume x)) old → find (λ x. volume x == k) new ≡ find (λ x. volume x == k) old
  find-others old new same = sym (find-filter (λ x. volume x == k) (λ x. q (volume x)) new within) ∙ ap (find (λ x. volume x == k)) same ∙ find-filter (λ x. volume x == k) (λ x. q (volume x)) old within

-- a row keeps what it kept, or is the volume's, which keeps the call
pub keep-either : (id other : ℕ) (kept : Kept) (state : NodeState) → (kept_in_row other (keep (Some id) kept state) ≡ kept_in_row other state) ⊎ (other ≡ id)
keep-either id other kept state = by (other == id) refl
  where
    by : (b : Bool) → (other == id) ≡ b → (kept_in_row other (keep (Some id) kept state) ≡ kept_in_row other state) ⊎ (other ≡ id)
    by true same = inr (eqb-true other id same)
    by false differ =
        inl (ap (option_map (λ (row : AnsweredVolume). row.kept))
        (find-others (λ (row : AnsweredVolume). row.id) (is_another (Some id)) other (ap not differ) state.rows (keep (Some id) kept state).rows (keep-others (Some id) kept state)))

-- once a call is kept, each row is as it was, of another volume, or keeps the call
pub keep-each : (volume : Option ℕ) (kept : Kept) (state : NodeState) (row : AnsweredVolume) → IsAmong row (keep volume kept state).rows
    → (IsAmong row state.rows × (is_another volume row.id ≡ true)) ⊎ (row.kept ≡ kept)
keep-each None kept state row among = inl (among, refl)
keep-each (Some id) kept state row among = by (row_with_id id state) refl among
  where
    own : AnsweredVolume → Bool
    own other = other.id == id

    changed_row : (was : AnsweredVolume) → IsAmong was state.rows → row ≡ kept_in id kept was → (b : Bool) → (was.id == id) ≡ b
        → (IsAmong row state.rows × (not (row.id == id) ≡ true)) ⊎ (row.kept ≡ kept)
    changed_row was there is true same =
        let now : (kept_in id kept was).kept ≡ kept = rw same refl in
        inr (ap (λ (r : AnsweredVolume). r.kept) is ∙ now)
    changed_row was there is false differ =
        let other : kept_in id kept was ≡ was = rw differ refl in
        let stays : row ≡ was = is ∙ other in
        inl (subst (λ (r : AnsweredVolume). IsAmong r state.rows) (sym stays) there, ap (λ (r : AnsweredVolume). not (r.id == id)) stays ∙ ap not differ)

    new_row : row_with_id id state ≡ None → IsAmong row state.rows ⊎ (row ≡ record { id = id; kept = kept }) → (IsAmong row state.rows × (not (row.id == id) ≡ true)) ⊎ (row.kept ≡ kept)
    new_row none (inl there) = inl (there, ap not (none_passes own state.rows row none there))
    new_row none (inr is) = inr (ap (λ (r : AnsweredVolume). r.kept) is)

    by : (o : Option AnsweredVolume) → row_with_id id state ≡ o → IsAmong row (kept_rows id kept state.rows o) → (IsAmong row state.rows × (not (row.id == id) ≡ true)) ⊎ (row.kept ≡ kept)
    by (Some there) is inside =
        let was = among-map (kept_in id kept) state.rows row inside in
        changed_row was.0 was.1 was.2 (was.0.id == id) refl
    by None none inside = new_row none (among-either state.rows (record { id = id; kept = kept }) row inside)
