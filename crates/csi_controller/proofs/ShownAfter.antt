-- What the rows show after one of them is another, and the state is changed so.
use Rattle.std.proofs.Common.{◌≡◌, ℕ, Bool, true, false, cond, List, map, refl, sym, ◌∙◌, ap, subst}
use Rattle.std.specs.Prelude.{find, filter, ◌==◌}
use Rattle.std.proofs.Math.ListN.{set}
use Rattle.std.proofs.lemmas.Bool.{eqb-true}
use Rattle.csi_types.proofs.Maps.{map-twice}
use Rattle.csi_types.proofs.Places.{FirstAt-find, FirstAt-only, find-set_first, find-set_other, map-first}
use Rattle.csi_types.specs.Public.Places.{AtMostOne, FirstAt, IsAt}
use Rattle.csi_types.specs.declared.holding.Holding.{Holding}
use Rattle.csi_types.specs.declared.call.Call.{Call}
use Rattle.csi_types.specs.declared.call.Call.TheVariants.{DeleteVolume}
use Rattle.csi_fence.specs.Model.Fence.{Kept}
use Rattle.csi_controller.specs.Model.State.{Volume, ControllerState, holdings_of, is_row_for}
use Rattle.csi_controller.specs.Model.Table.{Change, Stays, Makes, Ends, Attaches, Detaches, changed, ended_volume}
use Rattle.csi_controller.specs.Model.Fenced.{kept_in}
use Rattle.csi_controller.specs.Public.Core.{volume_holding}
use Rattle.csi_controller.specs.Public.OneRow.{RowShown, row_changed, call_change}
use Rattle.csi_controller.proofs.Holdings.{IsAbout, held_in, own_list-after, other_list-after}
use Rattle.csi_controller.proofs.ShownRows.{ControllerRows, RowsShowAll, volume_in}

-- a change of a volume that is there leaves the next id and the session
pub stays-after : (state : ControllerState) (kept : Kept) (id : ℕ) (change : Change) → IsAbout id change
    → ((changed state kept change).next_id ≡ state.next_id) × ((changed state kept change).session ≡ state.session)
stays-after state kept id (Makes name capacity capabilities) about = absurd about
stays-after state kept id change about = (refl, refl)

-- the rows where one is another, and a state that changed so
pub shown-after : (old : ControllerRows) (state new_state : ControllerState) (place : ℕ) (row new : RowShown) (kept : Kept) (change : Change)
    → RowsShowAll old state → IsAt old.rows place row → ((id : ℕ) → AtMostOne (λ (r : RowShown). r.volume.id == id) old.rows) → IsAbout row.volume.id change
    → new_state.next_id ≡ state.next_id → new_state.session ≡ state.session → map volume_in (set old.rows place new) ≡ new_state.volumes → new_state.holdings ≡ (changed state kept change).holdings
    → new.volume.id ≡ row.volume.id → new.items ≡ (row_changed row change).items → RowsShowAll (record old { rows = set old.rows place new }) new_state
shown-after old state new_state place row new kept change shown at one about next session volumes holdings same items =
    record {
      next = shown.next ∙ sym next;
      session = shown.session ∙ sym session;
      volumes = volumes;
      holdings = λ id. by id (row.volume.id == id) refl ∙ ap (λ all. filter (λ (h : Holding). h.volume == id) all) (sym holdings);
    }
  where
    by : (id : ℕ) (b : Bool) → (row.volume.id == id) ≡ b → held_in (find (λ (r : RowShown). r.volume.id == id) (set old.rows place new)) ≡ holdings_of id (changed state kept change)
    by id true e =
        let is : row.volume.id ≡ id = eqb-true row.volume.id id e in
        let first = FirstAt-only (λ (r : RowShown). r.volume.id == id) old.rows place row at e (one id) in
        let passes : (new.volume.id == id) ≡ true = ap (λ k. k == id) same ∙ e in
        let own : map (volume_holding row.volume.id) row.items ≡ holdings_of id state
        = sym (ap held_in (FirstAt-find (λ (r : RowShown). r.volume.id == id) old.rows place row first)) ∙ shown.holdings id in
        ap held_in (find-set_first (λ (r : RowShown). r.volume.id == id) old.rows place row new first passes)
        ∙ ap (λ k. map (volume_holding k) new.items) same
        ∙ ap (map (volume_holding row.volume.id)) items
        ∙ own_list-after row state kept change about (own ∙ ap (λ k. holdings_of k state) (sym is))
        ∙ ap (λ k. holdings_of k (changed state kept change)) is
    by id false e =
        ap held_in (find-set_other (λ (r : RowShown). r.volume.id == id) old.rows place row new at e (ap (λ k. k == id) same ∙ e))
        ∙ shown.holdings id
        ∙ sym (other_list-after row.volume.id id state kept change about e)

-- what becomes of a volume where a deletion is carried out and kept: it changes where it has the id
kept_and_ended : (id : ℕ) (kept : Kept) (volume : Volume) → kept_in (DeleteVolume id) kept (ended_volume id volume) ≡ cond (volume.id == id) (record volume { is_live = false; kept = kept }) volume
kept_and_ended id kept volume = by (volume.id == id) refl
  where
    by : (b : Bool) → (volume.id == id) ≡ b → kept_in (DeleteVolume id) kept (cond b (record volume { is_live = false }) volume) ≡ cond b (record volume { is_live = false; kept = kept }) volume
    by true e = rw e refl
    by false e = rw e refl

-- only a DeleteVolume ends a volume
pub ends_call : (call : Call) (id : ℕ) → call_change call ≡ Ends id → call ≡ DeleteVolume id
ends_call (DeleteVolume volume) id is = let same : volume ≡ id = cc in ap DeleteVolume same
ends_call call id is = cc

-- the volumes after a call that is carried out at its row
pub volumes-after : (call : Call) (kept : Kept) (state : ControllerState) (rows : List RowShown) (place : ℕ) (row new : RowShown) (change : Change) → map volume_in rows ≡ state.volumes
    → FirstAt (λ (r : RowShown). is_row_for call r.volume) rows place row → AtMostOne (λ (r : RowShown). is_row_for call r.volume) rows → IsAbout row.volume.id change
    → ((id : ℕ) → change ≡ Ends id → call ≡ DeleteVolume id) → new.volume ≡ record (row_changed row change).volume { kept = kept }
    → map volume_in (set rows place new) ≡ map (kept_in call kept) (changed state kept change).volumes
volumes-after call kept state rows place row new change shows first one about ends is = by change about ends is
  where
    stays : new.volume ≡ record row.volume { kept = kept } → map volume_in (set rows place new) ≡ map (kept_in call kept) state.volumes
    stays is = map-first volume_in (is_row_for call) (λ (v : Volume). record v { kept = kept }) rows place row new first one is ∙ ap (map (kept_in call kept)) shows

    by : (change : Change) → IsAbout row.volume.id change → ((id : ℕ) → change ≡ Ends id → call ≡ DeleteVolume id) → new.volume ≡ record (row_changed row change).volume { kept = kept }
        → map volume_in (set rows place new) ≡ map (kept_in call kept) (changed state kept change).volumes
    by Stays about ends is = stays is
    by (Makes name capacity capabilities) about ends is = absurd about
    by (Attaches holding) about ends is = stays is
    by (Detaches id node) about ends is = stays is
    by (Ends id) about ends is =
        let deletes : call ≡ DeleteVolume row.volume.id = ends id refl ∙ ap DeleteVolume about in
        let back = sym deletes in
        let own = sym about in
        let first_id = subst (λ (k : Call). FirstAt (λ (r : RowShown). is_row_for k r.volume) rows place row) deletes first in
        let one_id = subst (λ (k : Call). AtMostOne (λ (r : RowShown). is_row_for k r.volume) rows) deletes one in
        map-first volume_in (λ (v : Volume). v.id == row.volume.id) (λ (v : Volume). record v { is_live = false; kept = kept }) rows place row new first_id one_id is
        ∙ sym (map-twice (kept_in (DeleteVolume row.volume.id) kept) (ended_volume row.volume.id) (λ (v : Volume). cond (v.id == row.volume.id) (record v { is_live = false; kept = kept }) v) (map volume_in rows) (kept_and_ended row.volume.id kept))
        ∙ (λ i. map (kept_in (back i) kept) (map (ended_volume (own i)) (shows i)))
