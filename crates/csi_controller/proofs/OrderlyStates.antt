-- What is so of the volumes of each state that frames reach: each is the one of its name and the one of its id, and
-- its id was given.
use Rattle.std.proofs.Common.{◌≡◌, ◌⊎◌, ℕ, ◌+◌, ◌<◌, List, [], ◌∷◌, ◌++◌, map, Bool, true, false, cond, refl, sym, ◌∙◌, ap, subst, inl, inr, arith}
use Rattle.std.specs.Prelude.{Some, None, option_map, ◌==◌, ◌&&◌}
use Rattle.std.proofs.lemmas.Bool.{and_parts, eqb-true, eq-eqb, ne_eqb}
use Rattle.csi_types.proofs.Members.{among-either, among-find, among-kept, among-map}
use Rattle.csi_types.proofs.Options.{option_or-some}
use Rattle.csi_types.proofs.Searches.{find-append, find-append_one, find-map, find-none, find-passes}
use Rattle.csi_types.specs.Model.Members.{IsAmong}
use Rattle.csi_types.proofs.Equality.{same_text-tells}
use Rattle.csi_types.specs.declared.number.Number.{Number}
use Rattle.csi_types.specs.declared.call.Call.{Call}
use Rattle.csi_types.specs.declared.call.Call.TheVariants as calls
use Rattle.csi_types.specs.Model.Config.{Config}
use Rattle.csi_fence.proofs.FramesKeep.{IsKept, frame_keeps, frames_keep}
use Rattle.csi_fence.specs.Model.Fence.{Kept}
use Rattle.csi_types.specs.Model.Frame.{Frame}
use Rattle.csi_types.specs.Model.Same.{same_text}
use Rattle.csi_controller.specs.Model.State.{Volume, ControllerState, empty_controller, volume_named, live_volume, is_row_for, row_for}
use Rattle.csi_controller.specs.Public.State.{volume_with_id}
use Rattle.csi_controller.specs.Model.Table.{Outcome, ended_volume, changed, controller_row}
use Rattle.csi_controller.specs.Model.Fenced.{kept_in, carried_out, begun, controller_with, fenced}
use Rattle.csi_controller.specs.Public.Fenced.{after_frames, ConfiguredFrame, after_configured}
use Rattle.csi_controller.specs.Public.Laws.{keeping}
use Rattle.csi_controller.proofs.Forgotten.{find-kept}
use Rattle.csi_controller.proofs.TableOutcomes.{IsOutcome, was_refused, was_found, was_made, was_ended, was_ended_before, was_attached, was_attached_before, was_detached, was_detached_before, is_outcome}

-- the volume is the one of its name and of its id
pub record IsOwn (state : ControllerState) (volume : Volume) : Type 0 where
  pub by_name : volume_named volume.name state ≡ Some volume
  pub by_id : volume_with_id volume.id state ≡ Some volume
  pub given : volume.id < state.next_id

-- so is each
abbrev pub IsOrderly : ControllerState → Type 0
IsOrderly state = (volume : Volume) → IsAmong volume state.volumes → IsOwn state volume

-- found by its name, it is found by its id
pub named_by_id : (state : ControllerState) (name : List ℕ) (volume : Volume) → IsOrderly state → volume_named name state ≡ Some volume → volume_with_id volume.id state ≡ Some volume
named_by_id state name volume orderly is = (orderly volume (among-find (λ (v : Volume). same_text v.name name) state.volumes volume is)).by_id

-- the other way round
pub with_id_by_name : (state : ControllerState) (id : ℕ) (volume : Volume) → IsOrderly state → volume_with_id id state ≡ Some volume → volume_named volume.name state ≡ Some volume
with_id_by_name state id volume orderly is = (orderly volume (among-find (λ (v : Volume). v.id == id) state.volumes volume is)).by_name

-- a volume of a name is the one that is found by it
pub is_named : (state : ControllerState) (name : List ℕ) (volume : Volume) → IsOrderly state → IsAmong volume state.volumes → same_text volume.name name ≡ true → volume_named name state ≡ Some volume
is_named state name volume orderly among same =
    subst (λ n. volume_named n state ≡ Some volume) ((same_text-tells volume.name name).0 same) (orderly volume among).by_name

-- so is a volume of an id
pub is_with_id : (state : ControllerState) (id : ℕ) (volume : Volume) → IsOrderly state → IsAmong volume state.volumes → (volume.id == id) ≡ true → volume_with_id id state ≡ Some volume
is_with_id state id volume orderly among same =
    subst (λ n. volume_with_id n state ≡ Some volume) (eqb-true volume.id id same) (orderly volume among).by_id

-- and a volume that is found live
pub live_with_id : (state : ControllerState) (id : ℕ) (volume : Volume) → IsOrderly state → live_volume id state ≡ Some volume → volume_with_id id state ≡ Some volume
live_with_id state id volume orderly live =
    is_with_id state id volume orderly (among-find (λ (v : Volume). (v.id == id) && v.is_live) state.volumes volume live)
    ((and_parts (volume.id == id) volume.is_live (find-passes (λ (v : Volume). (v.id == id) && v.is_live) state.volumes volume live)).0)

-- and a call's row
pub is_row : (state : ControllerState) (call : Call) (volume : Volume) → IsOrderly state → IsAmong volume state.volumes → is_row_for call volume ≡ true → row_for call state ≡ Some volume
is_row state (calls.CreateVolume name required limit capabilities) volume orderly among same = is_named state name volume orderly among same
is_row state (calls.DeleteVolume id) volume orderly among same = is_with_id state id volume orderly among same
is_row state (calls.ControllerPublishVolume id node capability readonly) volume orderly among same = is_with_id state id volume orderly among same
is_row state (calls.ControllerUnpublishVolume id node) volume orderly among same = is_with_id state id volume orderly among same
is_row state (calls.NodeStageVolume id capability) volume orderly among same = is_with_id state id volume orderly among same
is_row state (calls.NodeUnstageVolume id) volume orderly among same = is_with_id state id volume orderly among same
is_row state (calls.NodePublishVolume id target capability readonly) volume orderly among same = is_with_id state id volume orderly among same
is_row state (calls.NodeUnpublishVolume id target) volume orderly among same = is_with_id state id volume orderly among same

-- a change of volumes that leaves ids and names
pub record LeavesNames (f : Volume → Volume) : Type 0 where
  pub ids : (volume : Volume) → (f volume).id ≡ volume.id
  pub names : (volume : Volume) → (f volume).name ≡ volume.name

-- a change of volumes that leaves ids and names leaves a state orderly
map_orderly : (f : Volume → Volume) → LeavesNames f → (state : ControllerState) → IsOrderly state → IsOrderly (record state { volumes = map f state.volumes })
map_orderly f leaves state orderly w among =
    let image = among-map f state.volumes w among in
    let v = image.0 in
    let own = orderly v image.1 in
    let after : ControllerState = record state { volumes = map f state.volumes } in
    subst (IsOwn after) (sym image.2)
    (record {
      by_name = find-map (λ (u : Volume). same_text u.name (f v).name) f state.volumes (λ u. ap (λ n. same_text n (f v).name) (leaves.names u))
          ∙ ap (λ n. option_map f (volume_named n state)) (leaves.names v) ∙ ap (option_map f) own.by_name;
      by_id = find-map (λ (u : Volume). u.id == (f v).id) f state.volumes (λ u. ap (λ n. n == (f v).id) (leaves.ids u))
          ∙ ap (λ n. option_map f (volume_with_id n state)) (leaves.ids v) ∙ ap (option_map f) own.by_id;
      given = subst (λ n. n < state.next_id) (sym (leaves.ids v)) own.given;
    })

-- so does a volume that is made, with the next id and a new name
pub made_orderly : (state : ControllerState) (n : Volume) → n.id ≡ state.next_id → volume_named n.name state ≡ None → IsOrderly state
    → IsOrderly (record state { volumes = state.volumes ++ n ∷ []; next_id = state.next_id + 1 })
made_orderly state n is_next unnamed orderly w among = by (among-either state.volumes n w among)
  where
    by : IsAmong w state.volumes ⊎ (w ≡ n) → IsOwn (record state { volumes = state.volumes ++ n ∷ []; next_id = state.next_id + 1 }) w
    by (inl old) =
        let own = orderly w old in
        record {
          by_name = find-append (λ (v : Volume). same_text v.name w.name) state.volumes n ∙ option_or-some (volume_named w.name state) _ w own.by_name;
          by_id = find-append (λ (v : Volume). v.id == w.id) state.volumes n ∙ option_or-some (volume_with_id w.id state) _ w own.by_id;
          given = let less = own.given in omega arith;
        }
    by (inr e) =
        subst (IsOwn (record state { volumes = state.volumes ++ n ∷ []; next_id = state.next_id + 1 })) (sym e)
        (record {
          by_name = find-append_one (λ (v : Volume). same_text v.name n.name) state.volumes n ((same_text-tells n.name n.name).1 refl) unnamed;
          by_id = find-append_one (λ (v : Volume). v.id == n.id) state.volumes n (eq-eqb n.id n.id refl)
              (find-none (λ (v : Volume). v.id == n.id) state.volumes (λ v there. let less = (orderly v there).given in ne_eqb v.id n.id (λ same. absurd (omega arith))));
          given = omega arith;
        })

-- what is kept, and a deletion, leave ids and names
pub kept_same : (call : Call) (kept k : Kept) (volume : Volume) → keeping k (kept_in call kept volume) ≡ keeping k volume
kept_same call kept k volume = by (is_row_for call volume)
  where
    by : (b : Bool) → keeping k (cond b (record volume { kept = kept }) volume) ≡ keeping k volume
    by true = refl
    by false = refl

-- by id and name alone it is told whose row a volume is
pub same_row : (call : Call) (v w : Volume) → w.id ≡ v.id → w.name ≡ v.name → is_row_for call w ≡ is_row_for call v
same_row (calls.CreateVolume name required limit capabilities) v w id named = ap (λ n. same_text n name) named
same_row (calls.DeleteVolume id') v w id named = ap (λ n. n == id') id
same_row (calls.ControllerPublishVolume id' node capability readonly) v w id named = ap (λ n. n == id') id
same_row (calls.ControllerUnpublishVolume id' node) v w id named = ap (λ n. n == id') id
same_row (calls.NodeStageVolume id' capability) v w id named = ap (λ n. n == id') id
same_row (calls.NodeUnstageVolume id') v w id named = ap (λ n. n == id') id
same_row (calls.NodePublishVolume id' target capability readonly) v w id named = ap (λ n. n == id') id
same_row (calls.NodeUnpublishVolume id' target) v w id named = ap (λ n. n == id') id

-- what is kept leaves whose row a volume is
pub kept_in-row : (call : Call) (kept : Kept) (v : Volume) → is_row_for call (kept_in call kept v) ≡ is_row_for call v
kept_in-row call kept v = same_row call v (kept_in call kept v) (ap (λ (w : Volume). w.id) (kept_same call kept kept v)) (ap (λ (w : Volume). w.name) (kept_same call kept kept v))

-- a row that isn't the call's stays as it was
pub kept_in-other : (call : Call) (kept : Kept) (v : Volume) → is_row_for call v ≡ false → kept_in call kept v ≡ v
kept_in-other call kept v h = rw h refl

-- to keep a call leaves ids and names
pub keep_leaves : (call : Call) (kept : Kept) → LeavesNames (kept_in call kept)
keep_leaves call kept =
    record { ids = λ v. ap (λ (v : Volume). v.id) (kept_same call kept kept v); names = λ v. ap (λ (v : Volume). v.name) (kept_same call kept kept v) }

-- a deletion changes nothing of a volume but whether it is live
pub ended_same : (id : ℕ) (v : Volume) → ended_volume id v ≡ record v { is_live = (ended_volume id v).is_live }
ended_same id v = by (v.id == id)
  where
    by : (b : Bool) → cond b (record v { is_live = false }) v ≡ record v { is_live = (cond b (record v { is_live = false }) v).is_live }
    by true = refl
    by false = refl

-- so it leaves ids and names
pub end_leaves : (id : ℕ) → LeavesNames (ended_volume id)
end_leaves id = record { ids = λ v. ap (λ (w : Volume). w.id) (ended_same id v); names = λ v. ap (λ (w : Volume). w.name) (ended_same id v) }

-- each change that the table makes leaves a state orderly
pub changed_orderly : (config : Config) (state : ControllerState) (call : Call) (outcome : Outcome) (kept : Kept) → IsOutcome config state call outcome → IsOrderly state → IsOrderly (changed state kept outcome.change)
changed_orderly config state call outcome kept (was_refused _ status detail not_ok) orderly = orderly
changed_orderly config state call outcome kept (was_found name required limit first others volume range is live serving) orderly = orderly
changed_orderly config state call outcome kept (was_made name required limit first others range unnamed) orderly = made_orderly state _ refl unnamed orderly
changed_orderly config state call outcome kept (was_ended id volume live free) orderly = map_orderly (ended_volume id) (end_leaves id) state orderly
changed_orderly config state call outcome kept (was_ended_before id none) orderly = orderly
changed_orderly config state call outcome kept (was_attached holding volume can free fits) orderly =
    λ v among. let own = orderly v among in record { by_name = own.by_name; by_id = own.by_id; given = own.given }
changed_orderly config state call outcome kept (was_attached_before holding volume can held) orderly = orderly
changed_orderly config state call outcome kept (was_detached id node held is) orderly =
    λ v among. let own = orderly v among in record { by_name = own.by_name; by_id = own.by_id; given = own.given }
changed_orderly config state call outcome kept (was_detached_before id node none) orderly = orderly

-- so does a call that is carried out
carried_orderly : (config : Config) (state : ControllerState) (number : Number) (call : Call) → IsOrderly state → IsOrderly (carried_out state number call (controller_row config state call)).state
carried_orderly config state number call orderly =
    map_orderly (kept_in call _) (keep_leaves call _) (changed state _ (controller_row config state call).change) (changed_orderly config state call (controller_row config state call) _ (is_outcome config state call) orderly)

-- and so does a session that begins
pub begun_orderly : (session : ℕ) (state : ControllerState) → IsOrderly state → IsOrderly (begun session state)
begun_orderly session state orderly w among =
    let kept = among-kept (λ (v : Volume). v.is_live) state.volumes w among in
    let own = orderly w kept.0 in
    record {
      by_name = find-kept (λ (v : Volume). same_text v.name w.name) (λ (v : Volume). v.is_live) state.volumes w own.by_name kept.1;
      by_id = find-kept (λ (v : Volume). v.id == w.id) (λ (v : Volume). v.is_live) state.volumes w own.by_id kept.1;
      given = own.given;
    }

-- so each frame does
pub orderly_kept : (config : Config) → IsKept (controller_with config) IsOrderly
orderly_kept config =
    record {
      sets_session = λ session state. refl;
      begins = λ session state later. begun_orderly session state;
      carries = λ state number call goes. carried_orderly config state number call;
    }

-- every state that frames lead to is orderly
pub reached_orderly : (config : Config) (frames : List Frame) → IsOrderly (after_frames config empty_controller frames)
reached_orderly config frames = frames_keep (controller_with config) IsOrderly (orderly_kept config) empty_controller frames (λ v among. absurd among)

-- what each frame keeps, whatever the configuration, is so after all frames, each under its own
pub configured_keep : (P : ControllerState → Type 0) → ((config : Config) → IsKept (controller_with config) P) → (state : ControllerState) (came : List ConfiguredFrame) → P state → P (after_configured state came)
configured_keep P keeps state [] so = so
configured_keep P keeps state (one ∷ others) so =
    configured_keep P keeps (fenced one.config state one.frame).state others (frame_keeps (controller_with one.config) P (keeps one.config) state one.frame so)

-- so is each state to which frames lead, under whatever configuration each comes
pub came_orderly : (came : List ConfiguredFrame) → IsOrderly (after_configured empty_controller came)
came_orderly came = configured_keep IsOrderly orderly_kept empty_controller came (λ v among. absurd among)
