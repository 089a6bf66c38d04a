-- A step of a node, from rows that show a state to rows that show the state after it.
use Rattle.std.proofs.Common.{◌≡◌, ℕ, List, [], ◌∷◌, ◌++◌, map, length, Bool, true, false, not, ◌&&◌, refl, sym, ◌∙◌, ap, arith, length-append}
use Rattle.std.specs.Prelude.{Option, Some, None, option_map, find, filter, ◌==◌, is_none, nat_le, option_to_list}
use Rattle.std.proofs.lemmas.Bool.{eq-eqb, eqb-true}
use Rattle.std.proofs.lemmas.List.{length-map}
use Rattle.csi_types.specs.declared.capability.Capability.{Capability}
use Rattle.csi_types.specs.declared.call.Call.{Call}
use Rattle.csi_fence.specs.Model.Fence.{Kept}
use Rattle.std.proofs.lemmas.List.Elements.{filter_agree}
use Rattle.csi_fence.proofs.PutRows.{grown}
use Rattle.csi_types.proofs.PassingByKey.{find-by_key}
use Rattle.csi_types.proofs.Searches.{find-of_map, find-passes}
use Rattle.csi_types.proofs.Filters.{filter-append_passes, filter-of_map}
use Rattle.csi_node.specs.declared.row.NodeRow.{NodeRow}
use Rattle.csi_node.specs.Model.State.{NodeState, AnsweredVolume, StagedVolume, PublishedVolume, row_with_id, published_of, volume_of, row_of_volume, row_for}
use Rattle.csi_node.specs.Public.View.{empty_node}
use Rattle.csi_node.specs.Model.Table.{Change, Outcome, lifecycle_row, has_no_room, changed}
use Rattle.csi_node.specs.Model.Fenced.{kept_in, kept_rows, keep, kept_for}
use Rattle.csi_node.specs.Public.Laws.{is_another}
use Rattle.csi_node.specs.Model.Shown.{RowsShow, answered_of_row, published_in, staged_in, row_in}
use Rattle.csi_node.specs.Model.OneRow.{NodeRowShown, node_row_shown}
use Rattle.csi_node.specs.Public.OneRow.{state_shown}
use Rattle.csi_node.proofs.OutcomeFacts.{LeavesRest, lifecycle_facts}
use Rattle.csi_node.proofs.LastCalls.{changed-rows, filter-others, kept_in-id, other_rows}
use Rattle.csi_node.proofs.OneRow.{itself}
use Rattle.csi_node.proofs.StateChanges.{IsPart, IsAbout, lifecycle-part, lifecycle-about, changed-published, changed-staged}

-- the row of an id
abbrev pub row_of : ℕ → List NodeRowShown → Option NodeRowShown
row_of id rows = find (λ row. row.id == id) rows

-- it has this id
pub row_of-id : (id : ℕ) (rows : List NodeRowShown) (row : NodeRowShown) → row_of id rows ≡ Some row → row.id ≡ id
row_of-id id rows row found = eqb-true row.id id (find-passes (λ (r : NodeRowShown). r.id == id) rows row found)

-- the state of a volume alone, with a row or without
abbrev pub alone_in : Option NodeRowShown → NodeState
alone_in None = empty_node
alone_in (Some row) = state_shown row

-- what the row says of the volume's last call
abbrev pub answered_of : NodeRowShown → AnsweredVolume
answered_of row = record { id = row.id; kept = row.kept }

-- the rows show the state
pub record ShowsAll (rows : List NodeRowShown) (state : NodeState) : Type 0 where
  pub count : length rows ≡ length state.rows
  pub kept : (id : ℕ) → option_to_list (option_map answered_of (row_of id rows)) ≡ filter (λ (row : AnsweredVolume). row.id == id) state.rows
  pub staged : (id : ℕ) → map (λ (s : StagedVolume). s.capability) (alone_in (row_of id rows)).staged ≡ map (λ (s : StagedVolume). s.capability) (filter (λ (s : StagedVolume). s.volume == id) state.staged)
  pub published : (id : ℕ) → (alone_in (row_of id rows)).published ≡ published_of id state

-- the rows of a record and their parts show the same
pub row_of-shown : (id : ℕ) (rows : List NodeRow) → row_of id (map node_row_shown rows) ≡ option_map node_row_shown (row_in id rows)
row_of-shown id rows = find-of_map (λ (row : NodeRowShown). row.id == id) node_row_shown rows

-- what is kept is the same by the row and by the row as it is shown
pub kept-shown : (o : Option NodeRow) → option_map answered_of (option_map node_row_shown o) ≡ option_map answered_of_row o
kept-shown None = refl
kept-shown (Some row) = refl

-- how a volume is staged, and below where it is published, is the same by the row and by the row as it is shown
staged-shown : (o : Option NodeRow) → map (λ (s : StagedVolume). s.capability) (alone_in (option_map node_row_shown o)).staged ≡ staged_in o
staged-shown None = refl
staged-shown (Some row) = by row.staged row.staged refl refl
  where
    by : (s t : Option Capability) → row.staged ≡ s → row.staged ≡ t → map (λ (s : StagedVolume). s.capability) (state_shown (node_row_shown row)).staged ≡ option_to_list row.staged
    by None t e f = rw e refl
    by (Some capability) t e f = rw e refl

-- where it is published is the same by the row and by the row as it is shown
published-shown : (o : Option NodeRow) → (alone_in (option_map node_row_shown o)).published ≡ published_in o
published-shown None = refl
published-shown (Some row) = by row.staged refl
  where
    by : (s : Option Capability) → row.staged ≡ s → (state_shown (node_row_shown row)).published ≡ published_in (Some row)
    by None e = rw e refl
    by (Some capability) e = rw e refl

-- rows that show a state show it as they are shown
pub all-from_shows : (rows : List NodeRow) (state : NodeState) → RowsShow rows state → ShowsAll (map node_row_shown rows) state
all-from_shows rows state shows = record {
  count = length-map rows node_row_shown ∙ shows.count;
  kept = λ id. ap (λ (o : Option NodeRowShown). option_to_list (option_map answered_of o)) (row_of-shown id rows) ∙ ap option_to_list (kept-shown (row_in id rows)) ∙ shows.kept id;
  staged = λ id. ap (λ (o : Option NodeRowShown). map (λ (s : StagedVolume). s.capability) (alone_in o).staged) (row_of-shown id rows) ∙ staged-shown (row_in id rows) ∙ shows.staged id;
  published = λ id. ap (λ (o : Option NodeRowShown). (alone_in o).published) (row_of-shown id rows) ∙ published-shown (row_in id rows) ∙ shows.published id;
}

-- rows that show a state as they are shown show it themselves
pub shows-from_all : (rows : List NodeRow) (state : NodeState) → ShowsAll (map node_row_shown rows) state → RowsShow rows state
shows-from_all rows state all = record {
  count = sym (length-map rows node_row_shown) ∙ all.count;
  kept = λ id. ap option_to_list (sym (kept-shown (row_in id rows))) ∙ ap (λ (o : Option NodeRowShown). option_to_list (option_map answered_of o)) (sym (row_of-shown id rows)) ∙ all.kept id;
  staged = λ id. sym (staged-shown (row_in id rows)) ∙ ap (λ (o : Option NodeRowShown). map (λ (s : StagedVolume). s.capability) (alone_in o).staged) (sym (row_of-shown id rows)) ∙ all.staged id;
  published = λ id. sym (published-shown (row_in id rows)) ∙ ap (λ (o : Option NodeRowShown). (alone_in o).published) (sym (row_of-shown id rows)) ∙ all.published id;
}

-- the row of an id is the state's
pub kept-found : (rows : List NodeRowShown) (state : NodeState) → ShowsAll rows state → (id : ℕ) → option_map answered_of (row_of id rows) ≡ row_with_id id state
kept-found rows state all id = sym (find-by_key answered_of (λ (row : NodeRowShown). row.id) (λ (row : AnsweredVolume). row.id) rows state.rows all.kept id)

-- the rows after a call of a volume
pub record RowsAfter (id : ℕ) (old new : List NodeRowShown) (row : NodeRowShown) : Type 0 where
  pub count : length new ≡ grown (row_of id old) (length old)
  pub this : row_of id new ≡ Some row
  pub others : (k : ℕ) → (k == id) ≡ false → row_of k new ≡ row_of k old

-- the parts of the state that are a volume's
pub part_of : (id : ℕ) (rows : List NodeRowShown) (state : NodeState) → ShowsAll rows state → IsPart id (alone_in (row_of id rows)) state
part_of id rows state all = record {
  staged = all.staged id;
  of_id = own (row_of id rows) (row_of-id id rows);
  published = all.published id;
}
  where
    one : (row : NodeRowShown) (s : Option Capability) → row.id ≡ id → filter (λ (v : StagedVolume). v.volume == id) (state_shown (record row { staged = s })).staged ≡ (state_shown (record row { staged = s })).staged
    one row None e = refl
    one row (Some capability) e = let passes : (row.id == id) ≡ true = eq-eqb row.id id e in rw passes refl

    own : (o : Option NodeRowShown) → ((row : NodeRowShown) → o ≡ Some row → row.id ≡ id) → filter (λ (v : StagedVolume). v.volume == id) (alone_in o).staged ≡ (alone_in o).staged
    own None h = refl
    own (Some row) h = one row row.staged (h row refl)

-- what is kept for the call's volume
pub kept-shown_by : (id : ℕ) (call : Call) (rows : List NodeRowShown) (state : NodeState) (o : Option NodeRowShown) → volume_of call ≡ Some id → ShowsAll rows state → row_of id rows ≡ o
    → kept_for call state ≡ option_map (λ (r : NodeRowShown). r.kept) o
kept-shown_by id call rows state o v all found =
    ap (λ (volume : Option ℕ). option_map (λ (row : AnsweredVolume). row.kept) (row_of_volume volume state)) v
    ∙ ap (option_map (λ (row : AnsweredVolume). row.kept)) (sym (kept-found rows state all id))
    ∙ ap (λ (p : Option NodeRowShown). option_map (λ (row : AnsweredVolume). row.kept) (option_map answered_of p)) found
    ∙ twice o
  where
    twice : (p : Option NodeRowShown) → option_map (λ (row : AnsweredVolume). row.kept) (option_map answered_of p) ≡ option_map (λ (r : NodeRowShown). r.kept) p
    twice None = refl
    twice (Some row) = refl

-- whether the state has room, by the rows
pub room-by : (id : ℕ) (call : Call) (rows : List NodeRowShown) (state : NodeState) (o : Option NodeRowShown) → volume_of call ≡ Some id → ShowsAll rows state → row_of id rows ≡ o
    → has_no_room state call ≡ (is_none o && nat_le 4096 (length rows))
room-by id call rows state o v all found =
    let row : row_for call state ≡ option_map answered_of o =
    ap (λ (volume : Option ℕ). row_of_volume volume state) v ∙ sym (kept-found rows state all id) ∙ ap (option_map answered_of) found in
    let none : is_none (row_for call state) ≡ is_none o = ap is_none row ∙ mapped o in
    λ i. none i && nat_le 4096 ((sym all.count) i)
  where
    mapped : (p : Option NodeRowShown) → is_none (option_map answered_of p) ≡ is_none p
    mapped None = refl
    mapped (Some row) = refl

-- what is kept, in the rows of the state
length-kept : (id : ℕ) (kept : Kept) (rows : List AnsweredVolume) (o : Option AnsweredVolume) (p : Option NodeRowShown) → option_map answered_of p ≡ o → length (kept_rows id kept rows o) ≡ grown p (length rows)
length-kept id kept rows (Some row) None h = cc
length-kept id kept rows None None h = omega (arith, length-append {A = AnsweredVolume})
length-kept id kept rows None (Some r) h = cc
length-kept id kept rows (Some row) (Some r) h = length-map rows (kept_in id kept)

-- of the volume for which something is kept there is its row, which has it
kept-here : (id : ℕ) (kept : Kept) (rows : List AnsweredVolume) (o : Option AnsweredVolume) → option_to_list o ≡ filter (λ (row : AnsweredVolume). row.id == id) rows → ((row : AnsweredVolume) → o ≡ Some row → row.id ≡ id)
    → filter (λ (row : AnsweredVolume). row.id == id) (kept_rows id kept rows o) ≡ (record { id = id; kept = kept }) ∷ []
kept-here id kept rows None h own =
    filter-append_passes (λ (row : AnsweredVolume). row.id == id) rows (record { id = id; kept = kept }) (itself id)
    ∙ ap (λ (l : List AnsweredVolume). l ++ (record { id = id; kept = kept }) ∷ []) (sym h)
kept-here id kept rows (Some row) h own =
    let here : (row.id == id) ≡ true = eq-eqb row.id id (own row refl) in
    filter-of_map (λ (r : AnsweredVolume). r.id == id) (kept_in id kept) rows
    ∙ ap (map (kept_in id kept)) (filter_agree (λ (r : AnsweredVolume). (kept_in id kept r).id == id) (λ (r : AnsweredVolume). r.id == id) (λ r. ap (λ n. n == id) (kept_in-id id kept r)) rows)
    ∙ ap (map (kept_in id kept)) (sym h)
    ∙ rw here (ap (λ (n : ℕ). let a : List AnsweredVolume = (record { id = n; kept = kept }) ∷ [] in a) (own row refl))

-- the state that the table and the fence lead to
abbrev pub state_then : NodeState → ℕ → Kept → Call → NodeState
state_then state id kept call = keep (Some id) kept (changed state (lifecycle_row state call).change)

-- rows show the state after a call that is carried out
pub shows_then : (id : ℕ) (call : Call) (old new : List NodeRowShown) (state : NodeState) (before after : NodeRowShown) (kept : Kept)
    → volume_of call ≡ Some id → ShowsAll old state → RowsAfter id old new after
    → state_shown before ≡ alone_in (row_of id old) → after.id ≡ id → after.kept ≡ kept
    → state_shown after ≡ changed (state_shown before) (lifecycle_row (state_shown before) call).change
    → ShowsAll new (state_then state id kept call)
shows_then id call old new state before after kept v all rows is_before is_id is_kept is_after = record {
  count = rows.count ∙ ap (grown (row_of id old)) all.count ∙ sym (ap length kept_there ∙ length-kept id kept state.rows (row_with_id id state) (row_of id old) (kept-found old state all id));
  kept = λ k. by_kept k (k == id) refl;
  staged = λ k. by_staged k (k == id) refl;
  published = λ k. by_published k (k == id) refl;
}
  where
    change : Change
    change = (lifecycle_row state call).change

    part : IsPart id (alone_in (row_of id old)) state
    part = part_of id old state all

    about : IsAbout id change
    about = lifecycle-about id state call v

    same_change : (lifecycle_row (state_shown before) call).change ≡ change
    same_change = ap (λ (s : NodeState). (lifecycle_row s call).change) is_before ∙ ap (λ (o : Outcome). o.change) (lifecycle-part id (alone_in (row_of id old)) state call v part)

    others : LeavesRest state (changed state change) call
    others = (lifecycle_facts state call).others

    another : (k : ℕ) → (k == id) ≡ false → is_another (volume_of call) k ≡ true
    another k e = ap (λ (o : Option ℕ). is_another o k) v ∙ ap not e

    now : alone_in (row_of id new) ≡ changed (alone_in (row_of id old)) change
    now = ap alone_in rows.this ∙ is_after ∙ ap (changed (state_shown before)) same_change ∙ ap (λ (s : NodeState). changed s change) is_before

    kept_there : (state_then state id kept call).rows ≡ kept_rows id kept state.rows (row_with_id id state)
    kept_there = ap (λ (l : List AnsweredVolume). kept_rows id kept l (find (λ (row : AnsweredVolume). row.id == id) l)) (changed-rows state change)

    kept_before : option_to_list (row_with_id id state) ≡ filter (λ (row : AnsweredVolume). row.id == id) state.rows
    kept_before = ap option_to_list (sym (kept-found old state all id)) ∙ all.kept id

    by_kept : (k : ℕ) (b : Bool) → (k == id) ≡ b → option_to_list (option_map answered_of (row_of k new)) ≡ filter (λ (row : AnsweredVolume). row.id == k) (state_then state id kept call).rows
    by_kept k true e =
        let same : k ≡ id = eqb-true k id e in
        rw same (ap (λ (o : Option NodeRowShown). option_to_list (option_map answered_of o)) rows.this
        ∙ (λ i. (record { id = is_id i; kept = is_kept i }) ∷ [])
        ∙ sym (ap (filter (λ (row : AnsweredVolume). row.id == id)) kept_there
        ∙ kept-here id kept state.rows (row_with_id id state) kept_before (λ row found. eqb-true row.id id (find-passes (λ (r : AnsweredVolume). r.id == id) state.rows row found))))
    by_kept k false e =
        ap (λ (o : Option NodeRowShown). option_to_list (option_map answered_of o)) (rows.others k e)
        ∙ all.kept k
        ∙ sym (ap (filter (λ (row : AnsweredVolume). row.id == k)) kept_there
        ∙ filter-others (λ (row : AnsweredVolume). row.id) (is_another (Some id)) k (ap not e) state.rows (kept_rows id kept state.rows (row_with_id id state)) (other_rows id kept state.rows (row_with_id id state)))

    by_staged : (k : ℕ) (b : Bool) → (k == id) ≡ b → map (λ (s : StagedVolume). s.capability) (alone_in (row_of k new)).staged ≡ map (λ (s : StagedVolume). s.capability) (filter (λ (s : StagedVolume). s.volume == k) (changed state change).staged)
    by_staged k true e =
        let same : k ≡ id = eqb-true k id e in
        rw same (ap (λ (s : NodeState). map (λ (v : StagedVolume). v.capability) s.staged) now ∙ changed-staged id (alone_in (row_of id old)) state change about part)
    by_staged k false e =
        ap (λ (o : Option NodeRowShown). map (λ (s : StagedVolume). s.capability) (alone_in o).staged) (rows.others k e)
        ∙ all.staged k
        ∙ ap (map (λ (s : StagedVolume). s.capability)) (sym (filter-others (λ (s : StagedVolume). s.volume) (is_another (volume_of call)) k (another k e) state.staged (changed state change).staged others.staged))

    by_published : (k : ℕ) (b : Bool) → (k == id) ≡ b → (alone_in (row_of k new)).published ≡ published_of k (changed state change)
    by_published k true e =
        let same : k ≡ id = eqb-true k id e in
        rw same (ap (λ (s : NodeState). s.published) now ∙ changed-published id (alone_in (row_of id old)) state change about part)
    by_published k false e =
        ap (λ (o : Option NodeRowShown). (alone_in o).published) (rows.others k e)
        ∙ all.published k
        ∙ sym (filter-others (λ (p : PublishedVolume). p.volume) (is_another (volume_of call)) k (another k e) state.published (changed state change).published others.published)
