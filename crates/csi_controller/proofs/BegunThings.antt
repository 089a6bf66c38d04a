-- A session that begins, by the things of a controller: what is held stays, and of what is kept that of the volumes that were deleted goes.
use Rattle.std.proofs.Common.{◌≡◌, ◌⊎◌, ◌≤◌, ℕ, true, refl, sym, ◌∙◌, ap, subst, inl, inr}
use Rattle.std.specs.Prelude.{Option, Some, None, option_map, ◌==◌}
use Rattle.std.proofs.lemmas.Option.{none-some, same_Some}
use Rattle.csi_types.proofs.Members.{among-find}
use Rattle.csi_types.proofs.Options.{some-from_map}
use Rattle.csi_types.specs.Model.Members.{IsAmong}
use Rattle.csi_types.specs.declared.number.Number.{Number}
use Rattle.csi_types.specs.declared.call.Call.{Call}
use Rattle.csi_types.specs.declared.call.Call.TheVariants as calls
use Rattle.csi_types.specs.Public.PluginThing.{PluginThing, Exists, Attached, HasId}
use Rattle.csi_types.specs.Model.Same.{same_text}
use Rattle.csi_fence.proofs.Begun.{HasBegun, IsUpTo, has-begun}
use Rattle.csi_fence.specs.Model.Fence.{Kept, begins}
use Rattle.csi_controller.specs.Model.State.{Volume, ControllerState}
use Rattle.csi_controller.specs.Public.State.{volume_with_id}
use Rattle.csi_controller.specs.Model.Fenced.{begun}
use Rattle.csi_controller.specs.Public.View.{held_in, kept_in_row, view_of, thing_of}
use Rattle.csi_controller.proofs.Forgotten.{live_named-begun, Remains, none_remains, live_remains, dead_goes, found_live, remains}
use Rattle.csi_controller.proofs.LastCalls.{row_of, kept_of_row}
use Rattle.csi_controller.proofs.OrderlyStates.{IsOrderly, is_named, is_with_id}
use Rattle.csi_controller.proofs.RememberedStates.{AreRecent}

-- what is found for a thing is a volume of the state
pub among_row : (state : ControllerState) (thing : PluginThing) (v : Volume) → row_of state thing ≡ Some v → IsAmong v state.volumes
among_row state (Exists name) v is = among-find (λ (u : Volume). same_text u.name name) state.volumes v is
among_row state (Attached id node) v is = among-find (λ (u : Volume). u.id == id) state.volumes v is
among_row state thing v is = absurd (none-some v is)

-- things are as they were
held_begun : (session : ℕ) (state : ControllerState) (thing : PluginThing) → held_in (begun session state) thing ≡ held_in state thing
held_begun session state (Exists name) = ap (option_map (λ (v : Volume). HasId v.id)) (live_named-begun session state name)
held_begun session state thing = refl

-- a thing's row stays where its volume is live
row_remains : (session : ℕ) (state : ControllerState) (thing : PluginThing) → IsOrderly state → Remains (row_of state thing) (row_of (begun session state) thing)
row_remains session state (Exists name) orderly =
    remains (λ (v : Volume). same_text v.name name) session state (λ v w among passes is. same_Some w v (sym (is_named state name w orderly among passes) ∙ is))
row_remains session state (Attached id node) orderly =
    remains (λ (v : Volume). v.id == id) session state (λ v w among passes is. same_Some w v (sym (is_with_id state id w orderly among passes) ∙ is))
row_remains session state thing orderly = none_remains

-- what a row that remains keeps is what it kept, or nothing is kept
kept_remains : (o next : Option Volume) → Remains o next
    → (option_map (λ (v : Volume). v.kept) next ≡ option_map (λ (v : Volume). v.kept) o) ⊎ (option_map (λ (v : Volume). v.kept) next ≡ None)
kept_remains _ _ none_remains = inl refl
kept_remains _ _ (live_remains v live) = inl refl
kept_remains _ _ (dead_goes v dead) = inr refl

-- so it is of what is kept for a thing
pub kept_begun : (session : ℕ) (state : ControllerState) (thing : PluginThing) → IsOrderly state → (kept_in_row (begun session state) thing ≡ kept_in_row state thing) ⊎ (kept_in_row (begun session state) thing ≡ None)
kept_begun session state thing orderly =
    subst (λ (k : Option Kept). (k ≡ kept_in_row state thing) ⊎ (k ≡ None)) (sym (kept_of_row (begun session state) thing))
    (subst (λ (k : Option Kept). (option_map (λ (v : Volume). v.kept) (row_of (begun session state) thing) ≡ k) ⊎ (option_map (λ (v : Volume). v.kept) (row_of (begun session state) thing) ≡ None)) (sym (kept_of_row state thing))
    (kept_remains (row_of state thing) (row_of (begun session state) thing) (row_remains session state thing orderly)))

-- what is kept for a thing is of no later session than the greatest that came
kept_up_to : (state : ControllerState) (thing : PluginThing) → AreRecent state → IsUpTo state.session (kept_in_row state thing)
kept_up_to state thing recent this is = by (some-from_map (λ (v : Volume). v.kept) (row_of state thing) this (sym (kept_of_row state thing) ∙ is))
  where
    by : (v : Volume) × (row_of state thing ≡ Some v) × (v.kept ≡ this) → this.number.session ≤ state.session
    by found = subst (λ (k : Kept). k.number.session ≤ state.session) found.2 (recent found.0 (among_row state thing found.0 found.1)).before

-- the session of this number has begun
pub has_begun : (state : ControllerState) (number : Number) → IsOrderly state → AreRecent state → begins state.session number ≡ true → HasBegun number (view_of state) (view_of (begun number.session state))
has_begun state number orderly recent later =
    has-begun state.session number (held_in state) (held_in (begun number.session state)) (kept_in_row state) (kept_in_row (begun number.session state)) later
    (held_begun number.session state) (λ thing. kept_begun number.session state thing orderly) (λ thing. kept_up_to state thing recent)

-- a volume that is found by its id then was found by it
with_id_before : (session : ℕ) (state : ControllerState) (id : ℕ) (f : Volume → PluginThing) (thing : PluginThing) → IsOrderly state → option_map f (volume_with_id id (begun session state)) ≡ Some thing
    → option_map f (volume_with_id id state) ≡ Some thing
with_id_before session state id f thing orderly is =
    let found = some-from_map f (volume_with_id id (begun session state)) thing is in
    let live = found_live (λ (v : Volume). v.id == id) session state found.0 found.1 in
    ap (option_map f) (is_with_id state id found.0 orderly live.0 live.2) ∙ ap Some found.2

-- the thing of a call that is known then was known
pub known_before : (session : ℕ) (state : ControllerState) (call : Call) (thing : PluginThing) → IsOrderly state → thing_of (begun session state) call ≡ Some thing → thing_of state call ≡ Some thing
known_before session state (calls.CreateVolume name required limit capabilities) thing orderly is = is
known_before session state (calls.DeleteVolume id) thing orderly is = with_id_before session state id (λ (v : Volume). Exists v.name) thing orderly is
known_before session state (calls.ControllerPublishVolume id node capability readonly) thing orderly is = with_id_before session state id (λ v. Attached id node) thing orderly is
known_before session state (calls.ControllerUnpublishVolume id node) thing orderly is = with_id_before session state id (λ v. Attached id node) thing orderly is
known_before session state call thing orderly is = is
