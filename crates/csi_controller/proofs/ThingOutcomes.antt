-- What each outcome of the table does to the things of a controller.
use Rattle.std.proofs.Common.{◌≡◌, ◌≢◌, ℕ, List, ◌∷◌, map, Bool, true, false, not, refl, sym, ◌∙◌, ap, subst}
use Rattle.std.specs.Prelude.{Option, Some, None, option_map, ◌==◌, ◌&&◌}
use Rattle.std.proofs.lemmas.Bool.{and_parts, and_from, eqb-true, eq-eqb, true≢false, and_left}
use Rattle.std.proofs.lemmas.Option.{none-some, same_Some}
use Rattle.csi_types.proofs.Members.{among-map, none_passes}
use Rattle.csi_types.proofs.Options.{option_map-map}
use Rattle.csi_types.proofs.Searches.{find-and, find-append_one, find-append_other, find-filter, find-filter_not, find-map_among, find-none, find-passes}
use Rattle.csi_types.specs.Model.Members.{IsAmong}
use Rattle.csi_types.proofs.Equality.{same_text-tells}
use Rattle.csi_types.specs.declared.capability.Capability.{Capability}
use Rattle.csi_types.specs.declared.holding.Holding.{Holding}
use Rattle.csi_types.specs.declared.call.Call.{Call}
use Rattle.csi_types.specs.declared.call.Call.TheVariants as calls
use Rattle.csi_types.specs.declared.status.Status.TheVariants.{Ok}
use Rattle.csi_types.specs.declared.reply.Reply.{Reply}
use Rattle.csi_types.specs.Model.Capacity.{capacity_wanted}
use Rattle.csi_types.specs.Model.Config.{Config}
use Rattle.csi_fence.specs.Model.Fence.{Kept}
use Rattle.csi_types.specs.Public.PluginThing.{PluginThing, Exists, Attached, Staged, Published, ThingForm, HasId, AttachedAs, same_plugin_thing, asked}
use Rattle.csi_types.specs.Model.Replies.{ok_reply, ok_reply_with}
use Rattle.csi_types.specs.Model.Same.{same_text}
use Rattle.csi_controller.specs.Model.State.{Volume, ControllerState, volume_named, live_volume, is_held_at, holding_at}
use Rattle.csi_controller.specs.Public.State.{volume_with_id}
use Rattle.csi_controller.specs.Model.Table.{Outcome, Makes, Ends, Attaches, Detaches, changed, ended_volume}
use Rattle.csi_controller.specs.Public.View.{live_named, held_in, thing_of}
use Rattle.csi_controller.proofs.SameText.{text-turned}
use Rattle.csi_controller.proofs.TableOutcomes.{IsOutcome, publish_call, was_refused, was_found, was_made, was_ended, was_ended_before, was_attached, was_attached_before, was_detached, was_detached_before}
use Rattle.csi_controller.proofs.OrderlyStates.{IsOrderly, is_named, is_with_id, with_id_by_name, end_leaves}
use Rattle.csi_controller.proofs.OutcomeFacts.{itself_at, ended_other}
use Rattle.csi_controller.proofs.SafeStates.{both_false}

-- after an OK the thing is as asked, after a refusal as it was, and other things are as they were
pub record Does (thing : PluginThing) (call : Call) (reply : Reply) (old new : ControllerState) : Type 0 where
  pub done : reply.status ≡ Ok → held_in new thing ≡ asked call reply
  pub refused : reply.status ≢ Ok → held_in new thing ≡ held_in old thing
  pub others : (other : PluginThing) → same_plugin_thing other thing ≡ false → held_in new other ≡ held_in old other

-- nothing changed
same_things : (thing : PluginThing) (call : Call) (reply : Reply) (state : ControllerState) → (reply.status ≡ Ok → held_in state thing ≡ asked call reply) → Does thing call reply state state
same_things thing call reply state done = record { done = done; refused = λ h. refl; others = λ other h. refl }

-- the live volume of a name
live_with_name : (state : ControllerState) (name : List ℕ) (volume : Volume) → volume_named name state ≡ Some volume → volume.is_live ≡ true → live_named name state ≡ Some volume
live_with_name state name volume is live = find-and (λ (v : Volume). same_text v.name name) (λ (v : Volume). v.is_live) state.volumes volume is live

-- where the second of two tests fails if the first holds, they don't hold together
second_fails : (a b : Bool) → (a ≡ true → b ≡ false) → (a && b) ≡ false
second_fails true b f = f refl
second_fails false b f = refl

-- a name that no volume has no live volume has
pub none_named : (state : ControllerState) (name : List ℕ) → volume_named name state ≡ None → live_named name state ≡ None
none_named state name none =
    find-none (λ (v : Volume). same_text v.name name && v.is_live) state.volumes
    (λ v among. and_left (same_text v.name name) v.is_live (none_passes (λ (u : Volume). same_text u.name name) state.volumes v none among))

-- CreateVolume
made_things : (config : Config) (state : ControllerState) (name : List ℕ) (required limit : ℕ) (capabilities : List Capability) (capacity : ℕ) (kept : Kept) → volume_named name state ≡ None
    → Does (Exists name) (calls.CreateVolume name required limit capabilities) (ok_reply_with state.next_id) state (changed state kept (Makes name capacity capabilities))
made_things config state name required limit capabilities capacity kept unnamed =
    let volume : Volume = record { id = state.next_id; name = name; capacity = capacity; capabilities = capabilities; is_live = true; kept = kept } in
    record {
      done = λ h. ap (option_map (λ (v : Volume). HasId v.id))
          (find-append_one (λ (v : Volume). same_text v.name name && v.is_live) state.volumes volume (and_from (same_text name name) true ((same_text-tells name name).1 refl) refl) (none_named state name unnamed));
      refused = λ h. absurd (h refl);
      others = others volume;
    }
  where
    others : (volume : Volume) (other : PluginThing) → same_plugin_thing other (Exists name) ≡ false
        → held_in (changed state kept (Makes name capacity capabilities)) other ≡ held_in state other
    others volume (Exists else) h = ap (option_map (λ (v : Volume). HasId v.id))
        (find-append_other (λ (v : Volume). same_text v.name else && v.is_live) state.volumes _ (and_left (same_text name else) true (text-turned name else ∙ h)))
    others volume thing h = refl

-- DeleteVolume
ended_own : (id : ℕ) (volume : Volume) → (volume.id == id) ≡ true → (ended_volume id volume).is_live ≡ false
ended_own id volume h = rw h refl

-- what is so of a volume that is ended, of one that isn't
by_id : (P : Volume → Type 0) (id : ℕ) (volume : Volume) → ((volume.id == id) ≡ true → P (ended_volume id volume)) → ((volume.id == id) ≡ false → P volume) → P (ended_volume id volume)
by_id P id volume f g = by (volume.id == id) refl
  where
    by : (b : Bool) → (volume.id == id) ≡ b → P (ended_volume id volume)
    by true h = f h
    by false h = subst P (sym (ended_other id volume h)) (g h)

-- in an orderly state each volume of an id is the one that is found by it
same_volume : (state : ControllerState) (id : ℕ) (volume other : Volume) → IsOrderly state → volume_with_id id state ≡ Some volume → IsAmong other state.volumes → (other.id == id) ≡ true → other ≡ volume
same_volume state id volume other orderly is among same = same_Some other volume (sym (is_with_id state id other orderly among same) ∙ is)

-- so is each volume of its name
same_named : (state : ControllerState) (id : ℕ) (volume other : Volume) → IsOrderly state → volume_with_id id state ≡ Some volume → IsAmong other state.volumes → same_text other.name volume.name ≡ true → other ≡ volume
same_named state id volume other orderly is among same = same_Some other volume (sym (is_named state volume.name other orderly among same) ∙ with_id_by_name state id volume orderly is)

-- the volume that is found by an id has it
has_own_id : (state : ControllerState) (id : ℕ) (volume : Volume) → volume_with_id id state ≡ Some volume → (volume.id == id) ≡ true
has_own_id state id volume is = find-passes (λ (v : Volume). v.id == id) state.volumes volume is

-- where DeleteVolume ends a volume, it does what it asks
ended_things : (state : ControllerState) (id : ℕ) (volume : Volume) (kept : Kept) → IsOrderly state → volume_with_id id state ≡ Some volume
    → Does (Exists volume.name) (calls.DeleteVolume id) ok_reply state (changed state kept (Ends id))
ended_things state id volume kept orderly is = record { done = λ h. ap (option_map (λ (v : Volume). HasId v.id)) gone; refused = λ h. absurd (h refl); others = others }
  where
    own : (v : Volume) → IsAmong v state.volumes → (same_text (ended_volume id v).name volume.name && (ended_volume id v).is_live) ≡ false
    own v among =
        by_id (λ (w : Volume). (same_text w.name volume.name && w.is_live) ≡ false) id v
        (λ same. second_fails (same_text (ended_volume id v).name volume.name) (ended_volume id v).is_live (λ h. ended_own id v same))
        (λ differs. and_left (same_text v.name volume.name) v.is_live (other_name v among differs (same_text v.name volume.name) refl))
      where
        other_name : (v : Volume) → IsAmong v state.volumes → (v.id == id) ≡ false → (b : Bool) → same_text v.name volume.name ≡ b → b ≡ false
        other_name v among differs false h = refl
        other_name v among differs true h =
            absurd (true≢false (sym (has_own_id state id volume is) ∙ ap (λ (u : Volume). u.id == id) (sym (same_named state id volume v orderly is among h)) ∙ differs))

    gone : live_named volume.name (changed state kept (Ends id)) ≡ None
    gone = find-none (λ (v : Volume). same_text v.name volume.name && v.is_live) (map (ended_volume id) state.volumes)
        (λ w among. let image = among-map (ended_volume id) state.volumes w among in subst (λ (u : Volume). (same_text u.name volume.name && u.is_live) ≡ false) (sym image.2) (own image.0 image.1))

    unmoved : (name : List ℕ) → same_text name volume.name ≡ false → (v : Volume) → IsAmong v state.volumes
        → (same_text (ended_volume id v).name name && (ended_volume id v).is_live) ≡ (same_text v.name name && v.is_live)
    unmoved name differs v among =
        by_id (λ (w : Volume). (same_text w.name name && w.is_live) ≡ (same_text v.name name && v.is_live)) id v
        (λ same.
        let e : same_text v.name name ≡ false = ap (λ (u : Volume). same_text u.name name) (same_volume state id volume v orderly is among same) ∙ text-turned volume.name name ∙ differs in
        and_left (same_text (ended_volume id v).name name) (ended_volume id v).is_live (ap (λ n. same_text n name) ((end_leaves id).names v) ∙ e) ∙ sym (and_left (same_text v.name name) v.is_live e))
        (λ differ. refl)

    others : (other : PluginThing) → same_plugin_thing other (Exists volume.name) ≡ false → held_in (changed state kept (Ends id)) other ≡ held_in state other
    others (Exists name) h =
        ap (option_map (λ (v : Volume). HasId v.id)) (find-map_among (λ (v : Volume). same_text v.name name && v.is_live) (ended_volume id) state.volumes (unmoved name h))
        ∙ option_map-map (λ (v : Volume). HasId v.id) (ended_volume id) (live_named name state) (λ v. ap HasId ((end_leaves id).ids v))
    others thing h = refl

-- and where the volume was deleted before
ended_before_things : (state : ControllerState) (id : ℕ) (volume : Volume) → IsOrderly state → volume_with_id id state ≡ Some volume → live_volume id state ≡ None
    → Does (Exists volume.name) (calls.DeleteVolume id) ok_reply state state
ended_before_things state id volume orderly is none =
    same_things (Exists volume.name) (calls.DeleteVolume id) ok_reply state
    (λ h. ap (option_map (λ (v : Volume). HasId v.id))
    (find-none (λ (v : Volume). same_text v.name volume.name && v.is_live) state.volumes (λ v among. second_fails (same_text v.name volume.name) v.is_live (dead v among))))
  where
    dead : (v : Volume) → IsAmong v state.volumes → same_text v.name volume.name ≡ true → v.is_live ≡ false
    dead v among same =
        let own : (v.id == id) ≡ true = ap (λ (u : Volume). u.id == id) (same_named state id volume v orderly is among same) ∙ has_own_id state id volume is in
        both_false (v.id == id) v.is_live own (none_passes (λ (u : Volume). (u.id == id) && u.is_live) state.volumes v none among)

-- ControllerPublishVolume
held_elsewhere : (holding : Holding) (id : ℕ) (node : List ℕ) → ((id == holding.volume) && same_text node holding.node) ≡ false → is_held_at id node holding ≡ false
held_elsewhere holding id node differs = by (holding.volume == id) (same_text holding.node node) refl refl
  where
    by : (a b : Bool) → (holding.volume == id) ≡ a → same_text holding.node node ≡ b → (a && b) ≡ false
    by false b h k = refl
    by true false h k = refl
    by true true h k =
        absurd (true≢false
        (sym (and_from (id == holding.volume) (same_text node holding.node) (eq-eqb id holding.volume (sym (eqb-true holding.volume id h))) (text-turned node holding.node ∙ k)) ∙ differs))

-- how a holding is there
abbrev form_of : Holding → ThingForm
form_of holding = AttachedAs holding.capability holding.readonly

-- where ControllerPublishVolume attaches a volume, it does what it asks
attached_things : (state : ControllerState) (holding : Holding) (kept : Kept) → holding_at holding.volume holding.node state ≡ None
    → Does (Attached holding.volume holding.node) (publish_call holding) ok_reply state (changed state kept (Attaches holding))
attached_things state holding kept none = record {
  done = λ h. ap (option_map form_of) (find-append_one (is_held_at holding.volume holding.node) state.holdings holding (itself_at holding) none);
  refused = λ h. absurd (h refl);
  others = others;
}
  where
    others : (other : PluginThing) → same_plugin_thing other (Attached holding.volume holding.node) ≡ false → held_in (changed state kept (Attaches holding)) other ≡ held_in state other
    others (Exists name) h = refl
    others (Attached id node) h = ap (option_map form_of) (find-append_other (is_held_at id node) state.holdings holding (held_elsewhere holding id node h))
    others thing h = refl

-- ControllerUnpublishVolume
at_both : (id : ℕ) (node : List ℕ) (other : ℕ) (there : List ℕ) (holding : Holding) → ((other == id) && same_text there node) ≡ false → is_held_at other there holding ≡ true → not (is_held_at id node holding) ≡ true
at_both id node other there holding differs at = by (is_held_at id node holding) refl
  where
    by : (b : Bool) → is_held_at id node holding ≡ b → not b ≡ true
    by false h = refl
    by true h =
        let here = and_parts (holding.volume == id) (same_text holding.node node) h in
        let away = and_parts (holding.volume == other) (same_text holding.node there) at in
        let ids : other ≡ id = sym (eqb-true holding.volume other away.0) ∙ eqb-true holding.volume id here.0 in
        let nodes : there ≡ node = sym ((same_text-tells holding.node there).0 away.1) ∙ (same_text-tells holding.node node).0 here.1 in
        absurd (true≢false (sym (and_from (other == id) (same_text there node) (eq-eqb other id ids) ((same_text-tells there node).1 nodes)) ∙ differs))

-- where ControllerUnpublishVolume detaches one, it does what it asks
detached_things : (state : ControllerState) (id : ℕ) (node : List ℕ) (kept : Kept)
    → Does (Attached id node) (calls.ControllerUnpublishVolume id node) ok_reply state (changed state kept (Detaches id node))
detached_things state id node kept = record {
  done = λ h. ap (option_map form_of) (find-filter_not (is_held_at id node) state.holdings);
  refused = λ h. absurd (h refl);
  others = others;
}
  where
    others : (other : PluginThing) → same_plugin_thing other (Attached id node) ≡ false → held_in (changed state kept (Detaches id node)) other ≡ held_in state other
    others (Exists name) h = refl
    others (Attached other there) h = ap (option_map form_of)
        (find-filter (is_held_at other there) (λ (k : Holding). not (is_held_at id node k)) state.holdings (λ k at. at_both id node other there k h at))
    others (Staged other there) h = refl
    others (Published other there target) h = refl

-- the thing that a call has
pub at_thing : (P : PluginThing → Type 0) (k thing : PluginThing) → Some k ≡ Some thing → P k → P thing
at_thing P k thing e p = subst P (same_Some k thing e) p

-- what is so of the thing of the volume that is found is so of the thing that comes of it
pub by_volume : (P : PluginThing → Type 0) (f : Volume → PluginThing) (o : Option Volume) (thing : PluginThing) → option_map f o ≡ Some thing → ((v : Volume) → o ≡ Some v → P (f v)) → P thing
by_volume P f None thing e g = absurd (none-some thing e)
by_volume P f (Some v) thing e g = at_thing P (f v) thing e (g v refl)

-- each outcome does what the call asks
pub does : (config : Config) (state : ControllerState) (thing : PluginThing) (call : Call) (outcome : Outcome) (kept : Kept) → IsOrderly state → thing_of state call ≡ Some thing → IsOutcome config state call outcome
    → Does thing call outcome.reply state (changed state kept outcome.change)
does config state thing call outcome kept orderly is (was_refused _ status detail not_ok) = same_things thing call outcome.reply state (λ h. absurd (not_ok h))
does config state thing call outcome kept orderly is (was_found name required limit first others volume range named live serving) =
    at_thing (λ k. Does k call outcome.reply state state) (Exists name) thing is
    (same_things (Exists name) call outcome.reply state (λ h. ap (option_map (λ (v : Volume). HasId v.id)) (live_with_name state name volume named live)))
does config state thing call outcome kept orderly is (was_made name required limit first others range unnamed) =
    at_thing (λ k. Does k call outcome.reply state (changed state kept outcome.change)) (Exists name) thing is (made_things config state name required limit (first ∷ others) (capacity_wanted required limit) kept unnamed)
does config state thing call outcome kept orderly is (was_ended id volume live free) =
    by_volume (λ k. Does k call outcome.reply state (changed state kept outcome.change)) (λ (v : Volume). Exists v.name) (volume_with_id id state) thing is (λ v own. ended_things state id v kept orderly own)
does config state thing call outcome kept orderly is (was_ended_before id none) =
    by_volume (λ k. Does k call outcome.reply state state) (λ (v : Volume). Exists v.name) (volume_with_id id state) thing is (λ v own. ended_before_things state id v orderly own none)
does config state thing call outcome kept orderly is (was_attached holding volume can free fits) =
    by_volume (λ k. Does k call outcome.reply state (changed state kept outcome.change)) (λ v. Attached holding.volume holding.node) (volume_with_id holding.volume state) thing is
    (λ v own. attached_things state holding kept free)
does config state thing call outcome kept orderly is (was_attached_before holding volume can held) =
    by_volume (λ k. Does k call outcome.reply state state) (λ v. Attached holding.volume holding.node) (volume_with_id holding.volume state) thing is
    (λ v own. same_things (Attached holding.volume holding.node) call outcome.reply state (λ h. ap (option_map form_of) held))
does config state thing call outcome kept orderly is (was_detached id node held there) =
    by_volume (λ k. Does k call outcome.reply state (changed state kept outcome.change)) (λ v. Attached id node) (volume_with_id id state) thing is (λ v own. detached_things state id node kept)
does config state thing call outcome kept orderly is (was_detached_before id node none) =
    by_volume (λ k. Does k call outcome.reply state state) (λ v. Attached id node) (volume_with_id id state) thing is
    (λ v own. same_things (Attached id node) call outcome.reply state (λ h. ap (option_map form_of) none))
