-- Deliveries of the frames that are sent, one after another; no frame is ever taken out; and which of them are refusals.
use Rattle.csi_world.proofs.Words.{◌≡◌, ◌⊎◌, ℕ, zero, suc, ◌≤◌, List, [], ◌∷◌, ◌++◌, length, slice_get, Bool, true}
use Rattle.csi_world.proofs.Words.{false, cond, Some, None, ◌||◌, refl, sym, ◌∙◌, ap, inl, inr, arith, append-nil}
use Rattle.csi_world.proofs.Words.{append_assoc, is_none, Deliver, Body, Frame, is_ok_status, reply_frame, same_text}
use Rattle.csi_world.proofs.Words.{Usage, Goal, Use, Stop, World, occurs, after_from, is_at_rest, deliveries}
use Rattle.csi_world.proofs.Words.{WasRefused}
use Rattle.csi_world.proofs.Lemmas.{false≢true, none-some, same_Some, same_text-tells}
use Rattle.csi_types.specs.declared.frame.Body.TheVariants as bodies

-- a text is the same as itself
pub self : (text : List ℕ) → same_text text text ≡ true
self text = (same_text-tells text text).1 refl

-- ---- deliveries

-- the world after them
abbrev pub final : ℕ → World → List ℕ → ℕ → World
final more world name place = (after_from world (deliveries more world name place)).world

-- where the volume is at rest, none is made
pub at-end : (more : ℕ) (world : World) (name : List ℕ) (place : ℕ) → is_at_rest world name ≡ true → final more world name place ≡ world
at-end more world name place rest = grind arith

-- where it isn't, and a frame is there, that one is delivered
pub goes-on : (more : ℕ) (world : World) (name : List ℕ) (place : ℕ) (frame : Frame) → is_at_rest world name ≡ false → slice_get world.frames place ≡ Some frame
    → final (suc more) world name place ≡ final more (occurs world (Deliver (suc place))).world name (suc place)
goes-on more world name place frame wanted framed =
    ap (λ b. (after_from world (cond b [] (Deliver (suc place) ∷ deliveries more (occurs world (Deliver (suc place))).world name (suc place)))).world)
    (ap (λ b. b || is_none (slice_get world.frames place)) wanted ∙ ap is_none framed)

-- at most so many are made
pub few-deliveries : (more : ℕ) (world : World) (name : List ℕ) (place : ℕ) → length (deliveries more world name place) ≤ more
few-deliveries zero world name place = omega arith
few-deliveries (suc more) world name place = grind (arith, (few-deliveries more (occurs world (Deliver (suc place))).world name (suc place)))

-- what was added last is found
pub get-last : {X : Type 0} (xs : List X) (x : X) → slice_get (xs ++ x ∷ []) (length xs) ≡ Some x
get-last [] x = refl
get-last (y ∷ ys) x = get-last ys x

-- what is found is found still where more is added
pub get-more : {X : Type 0} (xs ys : List X) (place : ℕ) (x : X) → slice_get xs place ≡ Some x → slice_get (xs ++ ys) place ≡ Some x
get-more [] ys place x e = absurd (none-some x e)
get-more (z ∷ zs) ys zero x e = e
get-more (z ∷ zs) ys (suc place) x e = get-more zs ys place x e

-- no frame is taken out
pub record Extends (old new : World) : Type 0 where
  pub more : List Frame
  pub frames : new.frames ≡ old.frames ++ more

pub extends-same : (old new : World) → new.frames ≡ old.frames → Extends old new
extends-same old new e = record { more = []; frames = e ∙ sym (append-nil old.frames) }

pub extends-then : (first next last : World) → Extends first next → Extends next last → Extends first last
extends-then first next last a b = record { more = a.more ++ b.more; frames = b.frames ∙ ap (λ fs. fs ++ b.more) a.frames ∙ append_assoc first.frames a.more b.more }

-- so a refusal of a call is there still
pub still-refused : (old new : World) (sent : ℕ) → Extends old new → (was : WasRefused old sent) → (still : WasRefused new sent) × (still.kind ≡ was.kind)
still-refused old new sent extends was = (
  record {
    place = was.place;
    number = was.number;
    party = was.party;
    kind = was.kind;
    reply = was.reply;
    is_there = ap (λ fs. slice_get fs was.place) extends.frames ∙ get-more old.frames extends.more was.place _ was.is_there;
    since = was.since;
    refused = was.refused;
  },
  refl,
)

-- ---- refusals

-- the body is no refusal
abbrev pub is_no_refusal : Body → Bool
is_no_refusal (bodies.Call call) = true
is_no_refusal (bodies.Reply kind reply) = is_ok_status reply.status

-- each refusal was there before
abbrev pub RefusesNoMore : World → World → Type 0
RefusesNoMore old new = (sent : ℕ) → WasRefused new sent → WasRefused old sent

-- one frame more is the last
get-new : {X : Type 0} (xs : List X) (x y : X) (place : ℕ) → slice_get (xs ++ x ∷ []) place ≡ Some y → (slice_get xs place ≡ Some y) ⊎ (x ≡ y)
get-new [] x y zero e = inr (same_Some x y e)
get-new [] x y (suc place) e = absurd (none-some y e)
get-new (z ∷ zs) x y zero e = inl e
get-new (z ∷ zs) x y (suc place) e = get-new zs x y place e

-- behind all none is
get-none : {X : Type 0} (xs : List X) (place : ℕ) → length xs ≤ place → slice_get xs place ≡ None
get-none [] place behind = refl
get-none (x ∷ xs) zero behind = absurd (none behind)
  where
    none : {n : ℕ} → suc n ≤ 0 → ⊥
    none behind = omega (arith, behind)
get-none (x ∷ xs) (suc place) behind = get-none xs place (omega (arith, behind))

-- where the frames stay, no refusal comes
pub refuses-same : (old new : World) → new.frames ≡ old.frames → RefusesNoMore old new
refuses-same old new e = λ sent was.
    record { place = was.place; number = was.number; party = was.party; kind = was.kind; reply = was.reply; is_there = ap (λ fs. slice_get fs was.place) (sym e) ∙ was.is_there; since = was.since; refused = was.refused }

-- nor where a frame is added that is none
pub refuses-added : (old new : World) (frame : Frame) → new.frames ≡ old.frames ++ frame ∷ [] → is_no_refusal frame.body ≡ true → RefusesNoMore old new
refuses-added old new frame e none = grind (arith, false≢true, get-new)

-- none was behind the frames that there are
pub refused-none : (world : World) → WasRefused world (length world.frames) → ⊥
refused-none world was = none-some (reply_frame was.number was.party was.kind was.reply) (sym (get-none world.frames was.place was.since) ∙ was.is_there)

-- while a use is wanted, no refusal is behind so many frames
abbrev pub IsUnrefused : ℕ → World → Goal → Type 0
IsUnrefused sent world goal = (usage : Usage) → goal ≡ Use usage → WasRefused world sent → ⊥

-- so it is of a stop
pub stop-unrefused : (sent : ℕ) (world : World) (node target : List ℕ) → IsUnrefused sent world (Stop node target)
stop-unrefused sent world node target = λ usage e was. other usage e
  where
    other : (usage : Usage) → Stop node target ≡ Use usage → ⊥
    other usage e = cc
