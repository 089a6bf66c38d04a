-- A node as it is seen: a call changes its rows as it changes any plugin's, and the state that it shows tells what its record tells.
use Rattle.std.proofs.Common.{◌≡◌, ◌∙◌, sym, ap, refl, ℕ, Bool, true, false, cond, List, [], ◌∷◌, map, arith}
use Rattle.std.specs.Prelude.{Option, Some, None, filter, not, option_map, option_to_list, is_some, is_none, ◌==◌}
use Rattle.std.proofs.lemmas.Bool.Decides.{nat_tests}
use Rattle.csi_types.proofs.Searches.{find-of_map}
use Rattle.csi_types.specs.declared.capability.Capability.{Capability}
use Rattle.csi_types.specs.declared.number.Number.{Number}
use Rattle.csi_types.specs.declared.call.Call.{Call}
use Rattle.csi_types.specs.declared.call.Party.TheVariants.{Node}
use Rattle.csi_types.specs.Model.Call.{kind_of}
use Rattle.csi_types.specs.Model.Frame.{Frame}
use Rattle.csi_types.specs.Model.Replies.{reply_frame}
use Rattle.csi_fence.specs.Model.Fenced.{Fenced}
use Rattle.csi_node.specs.declared.row.NodeRow.{NodeRow}
use Rattle.csi_node.specs.Model.State.{NodeState, AnsweredVolume, volume_of}
use Rattle.csi_node.specs.Model.Shown.{row_in, answered_of_row}
use Rattle.csi_node.specs.Model.Table.{node_row, has_no_room, changed}
use Rattle.csi_node.specs.Model.Fenced.{node_at, keep}
use Rattle.csi_node.specs.Model.OneRow.{NodeRowShown, node_row_shown}
use Rattle.csi_node.specs.Model.Record.{NodeParts, Shows, parts}
use Rattle.csi_node.specs.Public.Changes.{row_by_id, put_row, staying, Changes, ChangesAt}
use Rattle.csi_service.specs.Public.Plugins as plugins
use Rattle.csi_service.specs.Public.Services.{node_view}
use Rattle.csi_service.specs.Private.Plugins.{RowsChange, TellSame}
use Rattle.csi_service.proofs.RowChanges.{id-at}

-- the ids of the rows that are forgotten
pub gone-shown : (rows : List NodeRowShown) → map (λ (row : NodeRowShown). row.id) (filter (λ (row : NodeRowShown). is_none row.staged) rows) ≡ map (λ (row : NodeRowShown). row.id) (filter (λ (row : NodeRowShown). not (is_some row.staged)) rows)
gone-shown rows = λ i. map (λ (row : NodeRowShown). row.id) (filter (λ (row : NodeRowShown). by row.staged i) rows)
  where
    by : (staged : Option Capability) → is_none staged ≡ not (is_some staged)
    by None = refl
    by (Some capability) = refl

-- ---- a row that is put in

-- a row that was put in is found by its id
found-put : (row : NodeRowShown) (rows : List NodeRowShown) → row_by_id row.id (put_row row rows) ≡ Some row
found-put row [] = grind (arith, nat_tests)
found-put row (other ∷ others) = grind (arith, nat_tests, found-put row others)

-- and leaves what is found of any other
found-other : (row : NodeRowShown) (rows : List NodeRowShown) (id : ℕ) → (row.id ≡ id → ⊥) → row_by_id id (put_row row rows) ≡ row_by_id id rows
found-other row [] id differs = grind (arith, nat_tests, differs)
found-other row (other ∷ others) id differs = grind (arith, nat_tests, differs, found-other row others id differs)

-- ---- a call

-- what a call changed of the row of an id
changes-of : (row place : Option ℕ) (number : Number) (old new : NodeParts) → plugins.row_id node_view place new ≡ row → Changes row number old new → RowsChange node_view place number old new
changes-of row place number old new is changes = record {
  session = changes.session;
  others = λ id other. by row refl id (λ e. other (is ∙ e));
  put = λ id e.
      let put = changes.put id (sym is ∙ e) in
      (put.0, ap (λ (n : ℕ). row_by_id n (parts new.rows)) (sym put.1) ∙ ap (row_by_id put.0.id) put.3 ∙ found-put put.0 stay, put.2);
  fresh = λ id was e there. changes.fresh id was (sym is ∙ e) there;
}
  where
    stay : List NodeRowShown
    stay = staying old.session number (parts old.rows)

    by : (o : Option ℕ) → row ≡ o → (id : ℕ) → (row ≡ Some id → ⊥) → row_by_id id (parts new.rows) ≡ row_by_id id stay
    by None e id other = ap (row_by_id id) (changes.same e)
    by (Some key) e id other =
        let put = changes.put key e in
        ap (row_by_id id) put.3 ∙ found-other put.0 stay id (λ same. other (e ∙ ap Some (sym put.1 ∙ same)))

-- so it did at the row's place
pub node-changes : (place : Option ℕ) (number : Number) (old new : NodeParts) → ChangesAt place number old new → RowsChange node_view place number old new
node-changes None number old new changes = changes-of None None number old new refl changes
node-changes (Some place) number old new changes = changes-of (Some changes.0.id) (Some place) number old new (id-at node_view (Some place) new (Some changes.0) changes.1) changes.2

-- ---- two nodes that show one state

-- the last number, of the list that has what is kept
abbrev first-number : List AnsweredVolume → Option Number
first-number [] = None
first-number (row ∷ rows) = Some row.kept.number

-- the last number of a volume is that of the state's row
last-shown : (node : NodeParts) (state : NodeState) (id : ℕ) → Shows node state → plugins.last_in node_view node id ≡ first-number (filter (λ (row : AnsweredVolume). row.id == id) state.rows)
last-shown node state id shown =
    ap (option_map (λ (row : NodeRowShown). row.kept.number)) (find-of_map (λ (row : NodeRowShown). row.id == id) node_row_shown node.rows)
    ∙ by (row_in id node.rows) ∙ ap first-number (shown.shows.kept id)
  where
    by : (o : Option NodeRow) → option_map (λ (row : NodeRowShown). row.kept.number) (option_map node_row_shown o) ≡ first-number (option_to_list (option_map answered_of_row o))
    by None = refl
    by (Some row) = refl

-- they tell the same
pub node-tells : (one other : NodeParts) (state : NodeState) → Shows one state → Shows other state → TellSame node_view one other
node-tells one other state shown shown_too = record {
  numbers = λ i. (0, (shown_too.session ∙ sym shown.session) i);
  last = λ id. last-shown other state id shown_too ∙ sym (last-shown one state id shown);
}

-- ---- replies

-- the table replies to each call
pub carries-reply : (node : List ℕ) (number : Number) (call : Call) (begun : NodeState) → (frame : Frame) × (((node_at node).carried_out begun number call).reply ≡ Some frame)
carries-reply node number call state = by (has_no_room state call)
  where
    by : (b : Bool) → (frame : Frame) × ((cond {A = Fenced NodeState} b
        (record { reply = Some (reply_frame number (Node node) (kind_of call) (node_row state call).reply); state = state })
        (record { reply = Some (reply_frame number (Node node) (kind_of call) (node_row state call).reply); state = keep (volume_of call) (record { number = number; kind = kind_of call; reply = (node_row state call).reply }) (changed state (node_row state call).change) })).reply ≡ Some frame)
    by true = (_, refl)
    by false = (_, refl)
