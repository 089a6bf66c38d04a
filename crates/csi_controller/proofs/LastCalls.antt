-- What is kept of the last call of each thing's volume, after one more was carried out.
use Rattle.std.proofs.Common.{◌≡◌, ℕ, List, Bool, true, false, cond, refl, sym, ◌∙◌, ap, subst, inl, inr}
use Rattle.std.specs.Prelude.{Option, Some, None, option_map, find, ◌==◌}
use Rattle.std.specs.Option.{option_or}
use Rattle.std.proofs.lemmas.Option.{none-some}
use Rattle.csi_types.proofs.Options.{option_or-none, option_or-some}
use Rattle.csi_types.proofs.Searches.{find-append, find-append_one, find-map}
use Rattle.csi_types.proofs.Equality.{same_text-tells}
use Rattle.csi_types.specs.declared.call.Call.{Call}
use Rattle.csi_types.specs.declared.call.Call.TheVariants as calls
use Rattle.csi_types.specs.declared.status.Status.TheVariants.{Ok}
use Rattle.csi_types.specs.Model.Config.{Config}
use Rattle.csi_fence.proofs.Views.{IsLater}
use Rattle.csi_fence.specs.Model.Fence.{Kept, is_spent}
use Rattle.csi_types.specs.Public.PluginThing.{PluginThing, Exists, Attached}
use Rattle.csi_types.specs.Model.Same.{same_text}
use Rattle.csi_controller.specs.Model.State.{Volume, ControllerState, volume_named, is_row_for, row_for}
use Rattle.csi_controller.specs.Public.State.{volume_with_id}
use Rattle.csi_controller.specs.Model.Table.{Outcome, Change, Makes, Ends, changed, ended_volume}
use Rattle.csi_controller.specs.Model.Fenced.{kept_in, keep}
use Rattle.csi_controller.specs.Public.View.{kept_in_row, thing_of}
use Rattle.csi_controller.proofs.TableOutcomes.{IsOutcome, was_refused, was_found, was_made, was_ended, was_ended_before, was_attached, was_attached_before, was_detached, was_detached_before}
use Rattle.csi_controller.proofs.OrderlyStates.{IsOrderly, LeavesNames, keep_leaves, end_leaves, same_row, with_id_by_name, ended_same}
use Rattle.csi_controller.proofs.ThingOutcomes.{at_thing, by_volume}

-- the row of a thing's volume
abbrev pub row_of : ControllerState → PluginThing → Option Volume
row_of state (Exists name) = volume_named name state
row_of state (Attached id node) = volume_with_id id state
row_of state thing = None

-- what is kept for a thing is what its row keeps
pub kept_of_row : (state : ControllerState) (thing : PluginThing) → kept_in_row state thing ≡ option_map (λ volume. volume.kept) (row_of state thing)
kept_of_row state (Exists name) = refl
kept_of_row state thing = refl

-- a row after a change: none, the same but for its life, or one that was made and keeps the call
data Comes (kept : Kept) : Option Volume → Option Volume → Type 0 where
  none_comes : Comes kept None None
  same_comes : (v w : Volume) → w.id ≡ v.id → w.name ≡ v.name → w.kept ≡ v.kept → Comes kept (Some v) (Some w)
  new_comes : (w : Volume) → w.kept ≡ kept → Comes kept None (Some w)

-- a row that stays as it was comes so
itself_comes : (kept : Kept) (o : Option Volume) → Comes kept o o
itself_comes kept None = none_comes
itself_comes kept (Some v) = same_comes v v refl refl refl

-- a row comes so where a volume is deleted, its own or another
ended_comes : (kept : Kept) (id : ℕ) (o : Option Volume) → Comes kept o (option_map (ended_volume id) o)
ended_comes kept id None = none_comes
ended_comes kept id (Some v) = same_comes v (ended_volume id v) ((end_leaves id).ids v) ((end_leaves id).names v) (ap (λ (w : Volume). w.kept) (ended_same id v))

-- so does the row that was found before, or else one that was just made
added_comes : (kept : Kept) (n : Volume) (o : Option Volume) (b : Bool) → n.kept ≡ kept → Comes kept o (option_or o (cond b (Some n) None))
added_comes kept n None true is = subst (Comes kept None) (sym (option_or-none None (Some n) refl)) (new_comes n is)
added_comes kept n None false is = subst (Comes kept None) (sym (option_or-none None None refl)) none_comes
added_comes kept n (Some v) b is = subst (Comes kept (Some v)) (sym (option_or-some (Some v) (cond b (Some n) None) v refl)) (itself_comes kept (Some v))

-- a test of ids and names alone
abbrev IsTest : (Volume → Bool) → Type 0
IsTest p = (f : Volume → Volume) → LeavesNames f → (v : Volume) → p (f v) ≡ p v

-- the tests of a name and of an id are such tests
by_name : (name : List ℕ) → IsTest (λ v. same_text v.name name)
by_name name f leaves v = ap (λ n. same_text n name) (leaves.names v)

-- the test of an id is such a test
by_id : (id : ℕ) → IsTest (λ v. v.id == id)
by_id id f leaves v = ap (λ n. n == id) (leaves.ids v)

-- what such a test finds after a change comes so
found_comes : (p : Volume → Bool) → IsTest p → (state : ControllerState) (kept : Kept) (change : Change) → Comes kept (find p state.volumes) (find p (changed state kept change).volumes)
found_comes p test state kept (Makes name capacity capabilities) =
    let volume : Volume = record { id = state.next_id; name = name; capacity = capacity; capabilities = capabilities; is_live = true; kept = kept } in
    subst (Comes kept (find p state.volumes)) (sym (find-append p state.volumes volume)) (added_comes kept volume (find p state.volumes) (p volume) refl)
found_comes p test state kept (Ends id) =
    subst (Comes kept (find p state.volumes)) (sym (find-map p (ended_volume id) state.volumes (test (ended_volume id) (end_leaves id)))) (ended_comes kept id (find p state.volumes))
found_comes p test state kept change = itself_comes kept (find p state.volumes)

-- so comes the row of each thing
row_comes : (state : ControllerState) (kept : Kept) (change : Change) (thing : PluginThing) → Comes kept (row_of state thing) (row_of (changed state kept change) thing)
row_comes state kept change (Exists name) = found_comes (λ v. same_text v.name name) (by_name name) state kept change
row_comes state kept change (Attached id node) = found_comes (λ v. v.id == id) (by_id id) state kept change
row_comes state kept change thing = none_comes

-- the row of a thing once a call is kept: what it was, with the call kept in it if it is the call's
row_of-keep : (call : Call) (kept : Kept) (state : ControllerState) (thing : PluginThing) → row_of (keep call kept state) thing ≡ option_map (kept_in call kept) (row_of state thing)
row_of-keep call kept state (Exists name) = find-map (λ v. same_text v.name name) (kept_in call kept) state.volumes (by_name name (kept_in call kept) (keep_leaves call kept))
row_of-keep call kept state (Attached id node) = find-map (λ v. v.id == id) (kept_in call kept) state.volumes (by_id id (kept_in call kept) (keep_leaves call kept))
row_of-keep call kept state thing = refl

-- the call's row keeps the call
taken : (call : Call) (kept : Kept) (v : Volume) → is_row_for call v ≡ true → (kept_in call kept v).kept ≡ kept
taken call kept v h = rw h refl

-- a row that isn't the call's keeps what it kept
left : (call : Call) (kept : Kept) (v : Volume) → is_row_for call v ≡ false → (kept_in call kept v).kept ≡ v.kept
left call kept v h = rw h refl

-- a row that keeps the call already keeps it still
new_keeps : (call : Call) (kept : Kept) (v : Volume) → v.kept ≡ kept → (kept_in call kept v).kept ≡ kept
new_keeps call kept v is = by (is_row_for call v) refl
  where
    by : (b : Bool) → is_row_for call v ≡ b → (kept_in call kept v).kept ≡ kept
    by true h = taken call kept v h
    by false h = left call kept v h ∙ is

-- the number wasn't spent by what was kept in the call's row
abbrev pub IsFreshFor : Call → Kept → Option Volume → Type 0
IsFreshFor call kept o = (v : Volume) → o ≡ Some v → is_row_for call v ≡ true → is_spent (Some v.kept.number) kept.number ≡ false

-- what a row that comes so keeps is what it kept, or the call, if the number was fresh for it
comes_later : (call : Call) (kept : Kept) (o next : Option Volume) → Comes kept o next → IsFreshFor call kept o
    → IsLater kept (option_map (λ v. v.kept) o) (option_map (λ v. v.kept) (option_map (kept_in call kept) next))
comes_later call kept o next none_comes fresh = inl refl
comes_later call kept o next (new_comes w is) fresh = inr (ap Some (new_keeps call kept w is), refl)
comes_later call kept o next (same_comes v w ids names same) fresh = by (is_row_for call v) refl
  where
    by : (b : Bool) → is_row_for call v ≡ b → IsLater kept (Some v.kept) (Some (kept_in call kept w).kept)
    by true h = inr (ap Some (taken call kept w (same_row call v w ids names ∙ h)), fresh v refl h)
    by false h = inl (ap Some (left call kept w (same_row call v w ids names ∙ h) ∙ same))

-- after a call that was fresh for a thing's row, what was kept for the thing is kept, or the call
pub kept_later : (call : Call) (kept : Kept) (state : ControllerState) (change : Change) (thing : PluginThing) → IsFreshFor call kept (row_of state thing)
    → IsLater kept (kept_in_row state thing) (kept_in_row (keep call kept (changed state kept change)) thing)
kept_later call kept state change thing fresh =
    let next : ControllerState = changed state kept change in
    subst (λ (o : Option Kept). IsLater kept o (kept_in_row (keep call kept next) thing)) (sym (kept_of_row state thing))
    (subst (IsLater kept (option_map (λ v. v.kept) (row_of state thing))) (sym (kept_of_row (keep call kept next) thing ∙ ap (option_map (λ (v : Volume). v.kept)) (row_of-keep call kept next thing)))
    (comes_later call kept (row_of state thing) (row_of next thing) (row_comes state kept change thing) fresh))

-- where the row before was the call's or there was none, the row that comes so keeps the call
comes_kept : (call : Call) (kept : Kept) (o next : Option Volume) → Comes kept o next → ((v : Volume) → o ≡ Some v → is_row_for call v ≡ true) → (next ≡ None → ⊥)
    → option_map (λ v. v.kept) (option_map (kept_in call kept) next) ≡ Some kept
comes_kept call kept o next none_comes rows there = absurd (there refl)
comes_kept call kept o next (new_comes w is) rows there = ap Some (new_keeps call kept w is)
comes_kept call kept o next (same_comes v w ids names same) rows there = ap Some (taken call kept w (same_row call v w ids names ∙ rows v refl))

-- a row that was there is there after a change
stays_there : (kept : Kept) (o next : Option Volume) (v : Volume) → Comes kept o next → o ≡ Some v → next ≡ None → ⊥
stays_there kept o next v none_comes is gone = none-some v is
stays_there kept o next v (new_comes w k) is gone = none-some v is
stays_there kept o next v (same_comes u w ids names same) is gone = none-some w (sym gone)

-- the row of a call's thing is the call's row
pub row_known : (state : ControllerState) (call : Call) (thing : PluginThing) → IsOrderly state → thing_of state call ≡ Some thing → row_of state thing ≡ row_for call state
row_known state (calls.CreateVolume name required limit capabilities) thing orderly is = at_thing (λ k. row_of state k ≡ volume_named name state) (Exists name) thing is refl
row_known state (calls.DeleteVolume id) thing orderly is =
    by_volume (λ k. row_of state k ≡ volume_with_id id state) (λ (v : Volume). Exists v.name) (volume_with_id id state) thing is (λ v own. with_id_by_name state id v orderly own ∙ sym own)
row_known state (calls.ControllerPublishVolume id node capability readonly) thing orderly is =
    by_volume (λ k. row_of state k ≡ volume_with_id id state) (λ v. Attached id node) (volume_with_id id state) thing is (λ v own. refl)
row_known state (calls.ControllerUnpublishVolume id node) thing orderly is =
    by_volume (λ k. row_of state k ≡ volume_with_id id state) (λ v. Attached id node) (volume_with_id id state) thing is (λ v own. refl)
row_known state call thing orderly is = absurd (none-some thing is)

-- a call that gets an OK, and has a thing, has a row then
there_after : (config : Config) (state : ControllerState) (thing : PluginThing) (call : Call) (outcome : Outcome) (kept : Kept) → IsOrderly state → thing_of state call ≡ Some thing → IsOutcome config state call outcome
    → outcome.reply.status ≡ Ok → row_of (changed state kept outcome.change) thing ≡ None → ⊥
there_after config state thing call outcome kept orderly is (was_refused _ status detail not_ok) ok = absurd (not_ok ok)
there_after config state thing call outcome kept orderly is (was_found name required limit first others volume range named live serving) ok =
    at_thing (λ k. row_of state k ≡ None → ⊥) (Exists name) thing is (λ gone. none-some volume (sym gone ∙ named))
there_after config state thing call outcome kept orderly is (was_made name required limit first others range unnamed) ok =
    at_thing (λ k. row_of (changed state kept outcome.change) k ≡ None → ⊥) (Exists name) thing is
    (λ gone. none-some _ (sym gone ∙ find-append_one (λ (v : Volume). same_text v.name name) state.volumes _ ((same_text-tells name name).1 refl) unnamed))
there_after config state thing call outcome kept orderly is (was_ended id volume live free) ok =
    by_volume (λ k. row_of (changed state kept outcome.change) k ≡ None → ⊥) (λ (v : Volume). Exists v.name) (volume_with_id id state) thing is
    (λ v own. stays_there kept _ _ v (row_comes state kept outcome.change (Exists v.name)) (with_id_by_name state id v orderly own))
there_after config state thing call outcome kept orderly is (was_ended_before id none) ok =
    by_volume (λ k. row_of state k ≡ None → ⊥) (λ (v : Volume). Exists v.name) (volume_with_id id state) thing is (λ v own gone. none-some v (sym gone ∙ with_id_by_name state id v orderly own))
there_after config state thing call outcome kept orderly is (was_attached holding volume can free fits) ok =
    by_volume (λ k. row_of state k ≡ None → ⊥) (λ v. Attached holding.volume holding.node) (volume_with_id holding.volume state) thing is (λ v own gone. none-some v (sym gone ∙ own))
there_after config state thing call outcome kept orderly is (was_attached_before holding volume can held) ok =
    by_volume (λ k. row_of state k ≡ None → ⊥) (λ v. Attached holding.volume holding.node) (volume_with_id holding.volume state) thing is (λ v own gone. none-some v (sym gone ∙ own))
there_after config state thing call outcome kept orderly is (was_detached id node held there) ok =
    by_volume (λ k. row_of state k ≡ None → ⊥) (λ v. Attached id node) (volume_with_id id state) thing is (λ v own gone. none-some v (sym gone ∙ own))
there_after config state thing call outcome kept orderly is (was_detached_before id node none) ok =
    by_volume (λ k. row_of state k ≡ None → ⊥) (λ v. Attached id node) (volume_with_id id state) thing is (λ v own gone. none-some v (sym gone ∙ own))

-- then that row keeps the call
pub kept_after : (config : Config) (state : ControllerState) (thing : PluginThing) (call : Call) (outcome : Outcome) (kept : Kept) → IsOrderly state → thing_of state call ≡ Some thing → IsOutcome config state call outcome
    → outcome.reply.status ≡ Ok → ((v : Volume) → row_of state thing ≡ Some v → is_row_for call v ≡ true) → kept_in_row (keep call kept (changed state kept outcome.change)) thing ≡ Some kept
kept_after config state thing call outcome kept orderly is given ok rows =
    let next : ControllerState = changed state kept outcome.change in
    kept_of_row (keep call kept next) thing ∙ ap (option_map (λ (v : Volume). v.kept)) (row_of-keep call kept next thing)
    ∙ comes_kept call kept (row_of state thing) (row_of next thing) (row_comes state kept outcome.change thing) rows (there_after config state thing call outcome kept orderly is given ok)
