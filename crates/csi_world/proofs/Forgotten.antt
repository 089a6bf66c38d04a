-- A world by its things, where what a controller forgot is spent: no call of it will be carried out. No controller can know that of a name.
use Rattle.csi_world.proofs.Words.{◌≡◌, ℕ, List, Bool, true, false, None, sym, ◌∙◌, ap, ◌==◌, ◌&&◌, ◌||◌, is_some}
use Rattle.csi_world.proofs.Words.{PluginView, IsClosed, PluginThing, Exists, Attached, same_text, IsAmong, Volume}
use Rattle.csi_world.proofs.Words.{ControllerState, live_volume, is_held_at, holding_at, volume_with_id, World}
use Rattle.csi_world.proofs.Words.{IsAttachedWhileLive, Number, IsBefore, is_over, arith}
use Rattle.csi_world.proofs.Lemmas.{and_parts, and_left, eqb-true, false≢true, or_cases, or_left, or_right}
use Rattle.csi_world.proofs.Lemmas.{same_text-tells, among-find, none_passes, none-where, find-none, find-passes}
use Rattle.csi_world.proofs.GivenIds.{GivenId, AreGiven, AreOf, now-given, gone-unnamed, is_given, is_forgotten}
use Rattle.csi_world.proofs.Lifetimes.{over-before}
use Rattle.csi_world.proofs.WorldView.{over_at, view_with, view_of}

-- the number is of a session before the one in which the orchestrator forgot the name, where the thing is whether its volume is there
abbrev pub is_past_name : (PluginThing → ℕ) → PluginThing → Number → Bool
is_past_name over (Exists name) number = is_over (over (Exists name)) number
is_past_name over thing number = false

-- no call of the number will be carried out for the thing, since it was forgotten by the controller or by the orchestrator
abbrev pub is_told : List GivenId → World → PluginThing → Number → Bool
is_told given world thing number = is_forgotten given world.controller thing || is_past_name (over_at world) thing number

-- the world by its things, where what was forgotten is spent too, and things ended in these sessions
abbrev pub told_with : List GivenId → World → (PluginThing → ℕ) → PluginView
told_with given world over =
    record {
      held = (view_with world over).held;
      is_spent = λ thing number. (view_with world over).is_spent thing number || (is_forgotten given world.controller thing || is_past_name over thing number);
      kept = (view_with world over).kept;
    }

-- the world by its things, where what was forgotten is spent too
abbrev pub told_by : List GivenId → World → PluginView
told_by given world = told_with given world (over_at world)

-- so it is of numbers before it
closed-past : (over : PluginThing → ℕ) (thing : PluginThing) (earlier later : Number) → IsBefore earlier later → is_past_name over thing later ≡ true → is_past_name over thing earlier ≡ true
closed-past over (Exists name) earlier later before past = over-before (over (Exists name)) earlier later before past
closed-past over thing earlier later before past = past

-- what came before a spent number is spent
pub closed-told : (given : List GivenId) (world : World) → IsClosed (view_of world) → IsClosed (told_by given world)
closed-told given world closed thing earlier later before spent = grind (arith, or_left, view_of, or_right, is_forgotten, over_at, closed-past, or_cases)

-- ---- a volume that isn't there any more

-- an id that no volume has no live volume has
pub gone-dead : (controller : ControllerState) (id : ℕ) → volume_with_id id controller ≡ None → live_volume id controller ≡ None
gone-dead controller id gone =
    find-none (λ (v : Volume). (v.id == id) && v.is_live) controller.volumes
    (λ v among. and_left (v.id == id) v.is_live (none_passes (λ (u : Volume). u.id == id) controller.volumes v gone among))

-- where only live volumes are attached, a volume that isn't there is attached nowhere
pub gone-detached : (world : World) (id : ℕ) (node : List ℕ) → IsAttachedWhileLive world → volume_with_id id world.controller ≡ None → holding_at id node world.controller ≡ None
gone-detached world id node live gone =
    none-where (holding_at id node world.controller) (λ holding is.
    let passes = and_parts (holding.volume == id) (same_text holding.node node) (find-passes (is_held_at id node) world.controller.holdings holding is) in
    let lives = live holding (among-find (is_held_at id node) world.controller.holdings holding is) in
    false≢true (sym (ap is_some (ap (λ n. live_volume n world.controller) (eqb-true holding.volume id passes.0) ∙ gone-dead world.controller id gone)) ∙ lives))

-- where only live volumes are attached, no volume without a live one is
pub ended-detached : (world : World) (id : ℕ) (node : List ℕ) → IsAttachedWhileLive world → live_volume id world.controller ≡ None → (view_of world).held (Attached id node) ≡ None
ended-detached world id node live ended = grind (arith, none-where, and_parts, find-passes, among-find, false≢true, eqb-true)

-- a thing whose volume isn't there isn't there
pub gone-held : (world : World) (given : List GivenId) (thing : PluginThing) (one : GivenId) → AreGiven given → AreOf world.controller given → IsAttachedWhileLive world
    → IsAmong one given → is_given thing one ≡ true → volume_with_id one.id world.controller ≡ None → (view_of world).held thing ≡ None
gone-held world given thing one are of live among passes gone = grind (arith, and_parts, same_text-tells, gone-unnamed, now-given, eqb-true, gone-detached, false≢true)
