-- What a controller is once a later session has begun: volumes that were deleted are forgotten, and nothing else changes.
use Rattle.std.proofs.Common.{◌≡◌, ℕ, List, Bool, true, false, refl, sym, ◌∙◌, ap, subst}
use Rattle.std.specs.Prelude.{Option, Some, None, find, filter, ◌==◌, ◌&&◌}
use Rattle.std.proofs.lemmas.Bool.{and_parts, true≢false}
use Rattle.std.proofs.Math.Bool.{and_comm}
use Rattle.csi_types.proofs.Members.{among-find, among-kept}
use Rattle.csi_types.proofs.Searches.{find-and, find-and_filter, find-filter, find-none_in_filter, find-passes, find-same}
use Rattle.csi_types.specs.Model.Members.{IsAmong}
use Rattle.csi_types.specs.Model.Same.{same_text}
use Rattle.csi_controller.specs.Model.State.{Volume, ControllerState, live_volume}
use Rattle.csi_controller.specs.Model.Fenced.{begun}
use Rattle.csi_controller.specs.Public.View.{live_named}

-- what is found and kept is found among what is kept
pub find-kept : {X : Type 0} (p q : X → Bool) (xs : List X) (x : X) → find p xs ≡ Some x → q x ≡ true → find p (filter q xs) ≡ Some x
find-kept p q xs x is passes = sym (find-and_filter q p xs) ∙ find-same (λ y. q y && p y) (λ y. p y && q y) xs (λ y. and_comm (q y) (p y)) ∙ find-and p q xs x is passes

-- live volumes are found as before, by name and by id
pub live_named-begun : (session : ℕ) (state : ControllerState) (name : List ℕ) → live_named name (begun session state) ≡ live_named name state
live_named-begun session state name =
    find-filter (λ (v : Volume). same_text v.name name && v.is_live) (λ (v : Volume). v.is_live) state.volumes (λ v both. (and_parts (same_text v.name name) v.is_live both).1)

-- live volumes are found by id as before
pub live_volume-begun : (session : ℕ) (state : ControllerState) (id : ℕ) → live_volume id (begun session state) ≡ live_volume id state
live_volume-begun session state id =
    find-filter (λ (v : Volume). (v.id == id) && v.is_live) (λ (v : Volume). v.is_live) state.volumes (λ v both. (and_parts (v.id == id) v.is_live both).1)

-- what a search finds then: nothing, where it found nothing or a volume that was deleted; or what it found, where that is live
pub data Remains : Option Volume → Option Volume → Type 0 where
  none_remains : Remains None None
  live_remains : (v : Volume) → v.is_live ≡ true → Remains (Some v) (Some v)
  dead_goes : (v : Volume) → v.is_live ≡ false → Remains (Some v) None

-- what is found live was found: it is there, and passes
pub found_live : (p : Volume → Bool) (session : ℕ) (state : ControllerState) (v : Volume) → find p (begun session state).volumes ≡ Some v
    → IsAmong v state.volumes × (v.is_live ≡ true) × (p v ≡ true)
found_live p session state v is =
    let kept = among-kept (λ (u : Volume). u.is_live) state.volumes v (among-find p (begun session state).volumes v is) in
    (kept.0, kept.1, find-passes p (begun session state).volumes v is)

-- where at most one volume passes the test
pub remains : (p : Volume → Bool) (session : ℕ) (state : ControllerState) → ((v w : Volume) → IsAmong w state.volumes → p w ≡ true → find p state.volumes ≡ Some v → w ≡ v)
    → Remains (find p state.volumes) (find p (begun session state).volumes)
remains p session state only = by (find p state.volumes) refl
  where
    gone : (v : Volume) → find p state.volumes ≡ Some v → v.is_live ≡ false → (o : Option Volume) → find p (begun session state).volumes ≡ o → o ≡ None
    gone v is dead None found = refl
    gone v is dead (Some w) found =
        let live = found_live p session state w found in
        absurd (true≢false (sym live.1 ∙ ap (λ (u : Volume). u.is_live) (only v w live.0 live.2 is) ∙ dead))

    by_life : (v : Volume) → find p state.volumes ≡ Some v → (b : Bool) → v.is_live ≡ b → Remains (Some v) (find p (begun session state).volumes)
    by_life v is true live = subst (Remains (Some v)) (sym (find-kept p (λ (u : Volume). u.is_live) state.volumes v is live)) (live_remains v live)
    by_life v is false dead = subst (Remains (Some v)) (sym (gone v is dead (find p (begun session state).volumes) refl)) (dead_goes v dead)

    by : (o : Option Volume) → find p state.volumes ≡ o → Remains o (find p (begun session state).volumes)
    by None none = subst (Remains None) (sym (find-none_in_filter p (λ (u : Volume). u.is_live) state.volumes none)) none_remains
    by (Some v) is = by_life v is v.is_live refl
