-- An id that was given and has no live volume never has one again, whatever a call changes.
use Rattle.std.proofs.Common.{◌≡◌, ℕ, ◌<◌, ◌⊎◌, List, ◌∷◌, [], ◌++◌, map, Bool, true, false, cond, ◌∙◌, ap, refl, inl, inr, arith}
use Rattle.std.specs.Prelude.{None, find, ◌==◌, ◌&&◌}
use Rattle.std.proofs.lemmas.Bool.{ne_eqb, and_right}
use Rattle.csi_types.specs.Model.Members.{IsAmong}
use Rattle.csi_types.proofs.Members.{among-either, among-map, none_passes}
use Rattle.csi_types.proofs.Searches.{find-none}
use Rattle.csi_types.specs.declared.call.Call.{Call}
use Rattle.csi_fence.specs.Model.Fence.{Kept}
use Rattle.csi_controller.specs.Model.State.{Volume, ControllerState, live_volume}
use Rattle.csi_controller.specs.Model.Table.{Change, Makes, Ends, changed, ended_volume}
use Rattle.csi_controller.specs.Model.Fenced.{kept_in, keep, begun}
use Rattle.csi_controller.proofs.Forgotten.{live_volume-begun}
use Rattle.csi_controller.proofs.OrderlyStates.{kept_same}

-- what has no live volume has none then
abbrev pub StaysEnded : ControllerState → ControllerState → Type 0
StaysEnded old new = (id : ℕ) → id < old.next_id → live_volume id old ≡ None → live_volume id new ≡ None

-- the live volume of an id
abbrev is_live_with : ℕ → Volume → Bool
is_live_with id volume = (volume.id == id) && volume.is_live

-- no change of volumes that leaves each dead volume dead finds a live one
mapped_ended : (f : Volume → Volume) (id : ℕ) (volumes : List Volume) → ((v : Volume) → is_live_with id v ≡ false → is_live_with id (f v) ≡ false)
    → find (is_live_with id) volumes ≡ None → find (is_live_with id) (map f volumes) ≡ None
mapped_ended f id volumes leaves none =
    find-none (is_live_with id) (map f volumes)
    (λ w among. let image = among-map f volumes w among in ap (is_live_with id) image.2 ∙ leaves image.0 (none_passes (is_live_with id) volumes image.0 none image.1))

-- what is kept leaves it dead
kept_ended : (call : Call) (kept : Kept) (id : ℕ) (v : Volume) → is_live_with id v ≡ false → is_live_with id (kept_in call kept v) ≡ false
kept_ended call kept id v dead = ap (is_live_with id) (kept_same call kept kept v) ∙ dead

-- and so does a deletion
deleted_ended : (other id : ℕ) (v : Volume) → is_live_with id v ≡ false → is_live_with id (ended_volume other v) ≡ false
deleted_ended other id v dead = by (v.id == other)
  where
    by : (b : Bool) → is_live_with id (cond b (record v { is_live = false }) v) ≡ false
    by true = and_right (v.id == id) false refl
    by false = dead

-- a volume that is made has another id
added_ended : (state : ControllerState) (made : Volume) (id : ℕ) → made.id ≡ state.next_id → id < state.next_id → find (is_live_with id) state.volumes ≡ None
    → find (is_live_with id) (state.volumes ++ made ∷ []) ≡ None
added_ended state made id is_next given none =
    find-none (is_live_with id) (state.volumes ++ made ∷ []) (λ w among. by w (among-either state.volumes made w among))
  where
    clash : (i j k : ℕ) → i ≡ j → k < j → i ≡ k → ⊥
    clash i j k is less same = omega arith

    by : (w : Volume) → IsAmong w state.volumes ⊎ (w ≡ made) → is_live_with id w ≡ false
    by w (inl there) = none_passes (is_live_with id) state.volumes w none there
    by w (inr e) = ap (is_live_with id) e ∙ ap (λ b. b && made.is_live) (ne_eqb made.id id (λ same. clash made.id state.next_id id is_next given same))

-- after each change that the table makes
changed_ended : (state : ControllerState) (kept : Kept) (change : Change) → StaysEnded state (changed state kept change)
changed_ended state kept (Makes name capacity capabilities) id given none = added_ended state _ id refl given none
changed_ended state kept (Ends other) id given none = mapped_ended (ended_volume other) id state.volumes (deleted_ended other id) none
changed_ended state kept change id given none = none

-- and where the call is kept in its row
pub carried_ended : (call : Call) (kept : Kept) (state : ControllerState) (change : Change) → StaysEnded state (keep call kept (changed state kept change))
carried_ended call kept state change id given none =
    mapped_ended (kept_in call kept) id (changed state kept change).volumes (kept_ended call kept id) (changed_ended state kept change id given none)

-- what is so once a session has begun was so before it
pub begun_ended : (session : ℕ) (state after : ControllerState) → StaysEnded (begun session state) after → StaysEnded state after
begun_ended session state after so id given none = so id given (live_volume-begun session state id ∙ none)
