-- Names and ids belong together, and do so as before: each volume was there under its id and name, or was made under the next id.
use Rattle.std.proofs.Common.{◌≡◌, ◌⊎◌, ℕ, ◌+◌, List, [], ◌∷◌, ◌++◌, ◌<◌, ◌≤◌, map, Bool, true, false, cond, refl, sym, ◌∙◌, ap, subst, inl, inr, arith}
use Rattle.std.specs.Prelude.{Option, Some, None, option_map, ◌==◌, ◌&&◌}
use Rattle.std.proofs.lemmas.Bool.{and_parts, eqb-true}
use Rattle.std.proofs.lemmas.Option.{none-some, same_Some}
use Rattle.std.specs.Option.{option_or}
use Rattle.csi_types.proofs.Members.{among-find}
use Rattle.csi_types.proofs.Options.{option_or-none, option_or-some, some-from_map}
use Rattle.csi_types.proofs.Searches.{find-append, find-map, find-passes}
use Rattle.csi_types.specs.declared.number.Number.{Number}
use Rattle.csi_types.specs.declared.call.Call.{Call}
use Rattle.csi_types.specs.Model.Config.{Config}
use Rattle.csi_fence.proofs.FramesKeep.{Leads, frame_leads}
use Rattle.csi_fence.specs.Model.Fence.{Kept}
use Rattle.csi_types.specs.Model.Frame.{Frame}
use Rattle.csi_types.specs.Model.Same.{same_text}
use Rattle.csi_controller.specs.Model.State.{Volume, ControllerState, empty_controller, volume_named}
use Rattle.csi_controller.specs.Public.State.{volume_with_id}
use Rattle.csi_controller.specs.Model.Table.{Outcome, Change, Stays, Makes, Ends, changed, ended_volume, controller_row}
use Rattle.csi_controller.specs.Model.Fenced.{fenced, carried_out, kept_in, begun, controller_with}
use Rattle.csi_controller.specs.Public.Fenced.{ConfiguredFrame, after_configured}
use Rattle.csi_controller.specs.Public.View.{AreNamed, live_named, HasVolume, WasMade, KeepsNames}
use Rattle.csi_controller.proofs.Forgotten.{find-kept, found_live, live_named-begun}
use Rattle.csi_controller.proofs.TableOutcomes.{IsOutcome, was_refused, was_found, was_made, was_ended, was_ended_before, was_attached, was_attached_before, was_detached, was_detached_before, is_outcome}
use Rattle.csi_controller.proofs.OrderlyStates.{IsOrderly, begun_orderly, came_orderly, named_by_id, with_id_by_name, is_named, is_with_id, live_with_id, LeavesNames, kept_same, keep_leaves, end_leaves}
use Rattle.csi_controller.proofs.StaysEnded.{carried_ended, begun_ended}
use Rattle.csi_controller.proofs.ThingOutcomes.{none_named}

-- in an orderly state names and ids belong together
are_named : (state : ControllerState) → IsOrderly state → AreNamed state
are_named state orderly = record {
  by_id = λ name volume is. named_by_id state name volume orderly is;
  by_name = λ id volume is. with_id_by_name state id volume orderly is;
  live = λ name volume is. is_named state name volume orderly (among-find (λ (v : Volume). same_text v.name name && v.is_live) state.volumes volume is)
      (and_parts (same_text volume.name name) volume.is_live (find-passes (λ (v : Volume). same_text v.name name && v.is_live) state.volumes volume is)).0;
  live_id = λ id volume is. live_with_id state id volume orderly is;
  given = λ id volume is. subst (λ n. n < state.next_id) (eqb-true volume.id id (find-passes (λ (v : Volume). v.id == id) state.volumes volume is))
      (orderly volume (among-find (λ (v : Volume). v.id == id) state.volumes volume is)).given;
}

-- so they do in every state that frames lead to
pub reached_named : (came : List ConfiguredFrame) → AreNamed (after_configured empty_controller came)
reached_named came = are_named (after_configured empty_controller came) (came_orderly came)

-- a volume of a state was there, or was made
abbrev Comes : ControllerState → Volume → Type 0
Comes old volume = HasVolume old volume ⊎ WasMade old volume

-- what is found by an id has it
own_id : (state : ControllerState) (id : ℕ) (volume : Volume) → volume_with_id id state ≡ Some volume → volume.id ≡ id
own_id state id volume is = eqb-true volume.id id (find-passes (λ (v : Volume). v.id == id) state.volumes volume is)

-- a volume of a state is there
was_there : (state : ControllerState) (id : ℕ) (volume : Volume) → volume_with_id id state ≡ Some volume → HasVolume state volume
was_there state id volume is = record { there = volume; is_found = subst (λ n. volume_with_id n state ≡ Some volume) (sym (own_id state id volume is)) is; same_name = refl }

-- a volume that was there was so after a change that leaves ids and names
mapped_has : (old : ControllerState) (f : Volume → Volume) → LeavesNames f → (v : Volume) → HasVolume old v → HasVolume old (f v)
mapped_has old f leaves v was =
    record { there = was.there; is_found = subst (λ n. volume_with_id n old ≡ Some was.there) (sym (leaves.ids v)) was.is_found; same_name = was.same_name ∙ sym (leaves.names v) }

-- and one that comes so does, where what is live stays so
mapped_comes : (old : ControllerState) (f : Volume → Volume) → LeavesNames f → ((v : Volume) → v.is_live ≡ true → (f v).is_live ≡ true) → (v : Volume) → Comes old v → Comes old (f v)
mapped_comes old f leaves lives v (inl was) = inl (mapped_has old f leaves v was)
mapped_comes old f leaves lives v (inr made) =
    inr (record { has_next = leaves.ids v ∙ made.has_next; is_live = lives v made.is_live; was_free = subst (λ n. live_named n old ≡ None) (sym (leaves.names v)) made.was_free })

-- so does each volume of a state, if each did before such a change
all_mapped : (old state : ControllerState) (f : Volume → Volume) → LeavesNames f → ((v : Volume) → v.is_live ≡ true → (f v).is_live ≡ true)
    → ((id : ℕ) (v : Volume) → volume_with_id id state ≡ Some v → Comes old v) → (id : ℕ) (w : Volume) → volume_with_id id (record state { volumes = map f state.volumes }) ≡ Some w → Comes old w
all_mapped old state f leaves lives all id w is =
    let mapped = sym (find-map (λ (v : Volume). v.id == id) f state.volumes (λ v. ap (λ n. n == id) (leaves.ids v))) ∙ is in
    let found = some-from_map f (volume_with_id id state) w mapped in
    subst (Comes old) found.2 (mapped_comes old f leaves lives found.0 (all id found.0 found.1))

-- what was there is there once a volume is deleted
ended_there : (state : ControllerState) (other id : ℕ) (w : Volume) → volume_with_id id (record state { volumes = map (ended_volume other) state.volumes }) ≡ Some w → Comes state w
ended_there state other id w is =
    let mapped = sym (find-map (λ (v : Volume). v.id == id) (ended_volume other) state.volumes (λ v. ap (λ n. n == id) ((end_leaves other).ids v))) ∙ is in
    let found = some-from_map (ended_volume other) (volume_with_id id state) w mapped in
    subst (Comes state) found.2 (inl (mapped_has state (ended_volume other) (end_leaves other) found.0 (was_there state id found.0 found.1)))

-- a volume was there, or is the one that was added
added_comes : (state : ControllerState) (made : Volume) → made.id ≡ state.next_id → made.is_live ≡ true → volume_named made.name state ≡ None → (id : ℕ) (w : Volume)
    → volume_with_id id (record state { volumes = state.volumes ++ made ∷ []; next_id = state.next_id + 1 }) ≡ Some w → Comes state w
added_comes state made is_next live unnamed id w is = by (volume_with_id id state) refl (sym (find-append (λ (v : Volume). v.id == id) state.volumes made) ∙ is)
  where
    this : (b : Bool) → cond b (Some made) None ≡ Some w → made ≡ w
    this true e = same_Some made w e
    this false e = absurd (none-some w e)

    by : (o : Option Volume) → volume_with_id id state ≡ o → option_or o (cond (made.id == id) (Some made) None) ≡ Some w → Comes state w
    by (Some v) there e = subst (Comes state) (same_Some v w e) (inl (was_there state id v there))
    by None none e =
        subst (Comes state) (this (made.id == id) (sym (option_or-none None (cond (made.id == id) (Some made) None) refl) ∙ e))
        (inr (record { has_next = is_next; is_live = live; was_free = none_named state made.name unnamed }))

-- so it is after each change that the table makes
changed_comes : (config : Config) (state : ControllerState) (call : Call) (outcome : Outcome) (kept : Kept) → IsOutcome config state call outcome
    → (id : ℕ) (w : Volume) → volume_with_id id (changed state kept outcome.change) ≡ Some w → Comes state w
changed_comes config state call outcome kept (was_refused _ status detail not_ok) id w is = inl (was_there state id w is)
changed_comes config state call outcome kept (was_found name required limit first others volume range named live serving) id w is = inl (was_there state id w is)
changed_comes config state call outcome kept (was_made name required limit first others range unnamed) id w is = added_comes state _ refl refl unnamed id w is
changed_comes config state call outcome kept (was_ended other volume live free) id w is = ended_there state other id w is
changed_comes config state call outcome kept (was_ended_before other none) id w is = inl (was_there state id w is)
changed_comes config state call outcome kept (was_attached holding volume can free fits) id w is = inl (was_there state id w is)
changed_comes config state call outcome kept (was_attached_before holding volume can held) id w is = inl (was_there state id w is)
changed_comes config state call outcome kept (was_detached other node held there) id w is = inl (was_there state id w is)
changed_comes config state call outcome kept (was_detached_before other node none) id w is = inl (was_there state id w is)

-- the next id only grows
changed_grows : (state : ControllerState) (kept : Kept) (change : Change) → state.next_id ≤ (changed state kept change).next_id
changed_grows state kept Stays = omega arith
changed_grows state kept change = omega arith

-- what is kept leaves a live volume live
keep_lives : (call : Call) (kept : Kept) (v : Volume) → v.is_live ≡ true → (kept_in call kept v).is_live ≡ true
keep_lives call kept v live = ap (λ (w : Volume). w.is_live) (kept_same call kept kept v) ∙ live

-- a volume is there still after a change that leaves ids and names
mapped_stays : (state : ControllerState) (f : Volume → Volume) → LeavesNames f → (volume : Volume) → HasVolume state volume → HasVolume (record state { volumes = map f state.volumes }) volume
mapped_stays state f leaves volume has =
    record {
      there = f has.there;
      is_found = find-map (λ (v : Volume). v.id == volume.id) f state.volumes (λ v. ap (λ n. n == volume.id) (leaves.ids v)) ∙ ap (option_map f) has.is_found;
      same_name = leaves.names has.there ∙ has.same_name;
    }

-- and after each change that the table makes
changed_stays : (state : ControllerState) (kept : Kept) (change : Change) (volume : Volume) → HasVolume state volume → HasVolume (changed state kept change) volume
changed_stays state kept (Makes made capacity capabilities) volume has =
    record {
      there = has.there;
      is_found = find-append (λ (v : Volume). v.id == volume.id) state.volumes _ ∙ option_or-some (volume_with_id volume.id state) _ has.there has.is_found;
      same_name = has.same_name;
    }
changed_stays state kept (Ends other) volume has = mapped_stays state (ended_volume other) (end_leaves other) volume has
changed_stays state kept change volume has = record { there = has.there; is_found = has.is_found; same_name = has.same_name }

-- names and ids stay as they are under any call that is carried out
carried_names : (config : Config) (state : ControllerState) (number : Number) (call : Call) → KeepsNames state (carried_out state number call (controller_row config state call)).state
carried_names config state number call =
    record {
      grows = changed_grows state _ (controller_row config state call).change;
      comes = all_mapped state (changed state _ (controller_row config state call).change) (kept_in call _) (keep_leaves call _) (keep_lives call _)
          (changed_comes config state call (controller_row config state call) _ (is_outcome config state call));
      stays = λ id volume is live. mapped_stays (changed state _ (controller_row config state call).change) (kept_in call _) (keep_leaves call _) volume
          (changed_stays state _ (controller_row config state call).change volume (was_there state id volume is));
      stays_ended = carried_ended call _ state (controller_row config state call).change;
    }

-- nothing changes
same_names : (state : ControllerState) → KeepsNames state state
same_names state = record { grows = omega arith; comes = λ id w is. inl (was_there state id w is); stays = λ id w is live. was_there state id w is; stays_ended = λ id given none. none }

-- a volume that is there once a session has begun was there
was_there_before : (session : ℕ) (state : ControllerState) (volume : Volume) → IsOrderly state → HasVolume (begun session state) volume → HasVolume state volume
was_there_before session state volume orderly has =
    let live = found_live (λ (v : Volume). v.id == volume.id) session state has.there has.is_found in
    record { there = has.there; is_found = is_with_id state volume.id has.there orderly live.0 live.2; same_name = has.same_name }

-- so does each that comes after
comes_before : (session : ℕ) (state : ControllerState) (volume : Volume) → IsOrderly state → Comes (begun session state) volume → Comes state volume
comes_before session state volume orderly (inl has) = inl (was_there_before session state volume orderly has)
comes_before session state volume orderly (inr made) =
    inr (record { has_next = made.has_next; is_live = made.is_live; was_free = sym (live_named-begun session state volume.name) ∙ made.was_free })

-- what is so of names once a session has begun was so of them before it
begun_names : (session : ℕ) (state after : ControllerState) → IsOrderly state → KeepsNames (begun session state) after → KeepsNames state after
begun_names session state after orderly keeps =
    record {
      grows = keeps.grows;
      comes = λ id volume is. comes_before session state volume orderly (keeps.comes id volume is);
      stays = λ id volume is live. keeps.stays id volume (find-kept (λ (v : Volume). v.id == id) (λ (v : Volume). v.is_live) state.volumes volume is live) live;
      stays_ended = begun_ended session state after keeps.stays_ended;
    }

-- names and ids of an orderly state stay as they are
names_lead : (config : Config) → Leads (controller_with config) (λ old new. IsOrderly old → KeepsNames old new)
names_lead config =
    record {
      sets_session = λ session state. refl;
      stays = λ state orderly. same_names state;
      begins = λ session state after later keeps orderly. begun_names session state after orderly (keeps (begun_orderly session state orderly));
      carries = λ state number call goes orderly. carried_names config state number call;
    }

-- under any frame
pub keeps_names : (config : Config) (state : ControllerState) (frame : Frame) → IsOrderly state → KeepsNames state (fenced config state frame).state
keeps_names config state frame orderly = frame_leads (controller_with config) (λ old new. IsOrderly old → KeepsNames old new) (names_lead config) state frame orderly
