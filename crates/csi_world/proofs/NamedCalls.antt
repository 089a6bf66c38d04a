-- Names and ids of the calls that were sent: each is for a volume of its name, by the id that the name has now if it was sent since the name
-- was forgotten last; and a thing by its name and by that id.
use Rattle.csi_world.proofs.Words.{◌≡◌, ℕ, List, true, Some, subst, inl, inr, ⊎_elim, ◌==◌, Capability, Call, Party}
use Rattle.csi_world.proofs.Words.{Reply, Frame, PluginThing, Exists, same_text, IsAmong, Thing, Item, issued_in}
use Rattle.csi_world.proofs.Words.{Issued, same_thing, touches, arith}
use Rattle.csi_world.proofs.Lemmas.{and_parts, and_from, eqb-true, eq-eqb, false≢true, same_text-tells}
use Rattle.csi_types.specs.declared.call.Call.TheVariants as calls
use Rattle.csi_world.proofs.GivenIds.{GivenId, HasNow, HasOld, HasName, AreGiven}
use Rattle.csi_world.proofs.CallThings.{IsFor, IsOwn, IsOwnNow, IsOwnOld, IsOne, IsThingBy, Existence, Attachment, Staging, Publication, IsAnsweredOk, of_thing, is_of, is_plugin_thing}
use Rattle.csi_world.proofs.Lifetimes.{calls_since, calls_before, since-or-before}

-- whatever has the name so has it so too
pub for-weaker : (has had : List ℕ → ℕ → Type 0) (name : List ℕ) → ((id : ℕ) → has name id → had name id) → (party : Party) (call : Call) → IsFor has name party call → IsFor had name party call
for-weaker has had name weaker party call own = grind arith

-- each call that was sent since its name was forgotten is for the volume that has the name now, and each before that for one that had it;
-- and an OK to CreateVolume has the id of its name
pub record Named (items : List Item) (frames : List Frame) (given : List GivenId) : Type 0 where
  pub own_now : (call : Issued) → IsAmong call (calls_since (Exists call.name) items) → IsOwnNow given call.name call.party call.call
  pub own_old : (call : Issued) → IsAmong call (calls_before (Exists call.name) items) → IsOwnOld given call.name call.party call.call
  pub made : (call : Issued) (reply : Reply) (id : ℕ) (create : List ℕ) (required limit : ℕ) (capabilities : List Capability) → IsAmong call (calls_since (Exists call.name) items)
      → call.call ≡ calls.CreateVolume create required limit capabilities → IsAnsweredOk frames call reply → reply.id ≡ Some id → HasNow given call.name id

-- so each is for a volume of its name
pub own : (items : List Item) (frames : List Frame) (given : List GivenId) → Named items frames given → (call : Issued) → IsAmong call (issued_in items) → IsOwn given call.name call.party call.call
own items frames given named call among =
    ⊎_elim (λ here. for-weaker (HasNow given) (HasName given) call.name (λ id has. inl has) call.party call.call (named.own_now call here))
    (λ earlier. for-weaker (HasOld given) (HasName given) call.name (λ id had. inr had) call.party call.call (named.own_old call earlier))
    (since-or-before (Exists call.name) items call among)

-- by an id that is of one name, what is one thing by its id is so by its name
one-id : (given : List GivenId) (a b : List ℕ) (i j : ℕ) → AreGiven given → HasName given a i → HasName given b j → (i == j) ≡ true → same_text a b ≡ true
one-id given a b i j are ha hb same = (same_text-tells a b).1 (are.one_name a b j (subst (HasName given a) (eqb-true i j same) ha) hb)

-- a call of a thing by its id is of it by its name
pub of-then-touches : (given : List GivenId) (thing : Thing) (plugin_thing : PluginThing) (call : Issued) → AreGiven given → IsThingBy (HasName given) thing plugin_thing → IsOwn given call.name call.party call.call
    → is_of plugin_thing call ≡ true → touches thing call ≡ true
of-then-touches given thing plugin_thing call are one mine of = grind (arith, of_thing, HasName, is_plugin_thing, IsThingBy, Existence, Attachment, and_parts, and_from, one-id, Staging, Publication, false≢true)

-- a call of a thing by its name is of it by the id that the name has now, where it is for that
pub touches-then-of : (given : List GivenId) (thing : Thing) (plugin_thing : PluginThing) (call : Issued) → AreGiven given → IsOne given thing plugin_thing → IsOwnNow given call.name call.party call.call
    → touches thing call ≡ true → is_of plugin_thing call ≡ true
touches-then-of given thing plugin_thing call are one mine of = grind (arith, of_thing, HasNow, is_plugin_thing, eq-eqb, same_text-tells, IsOne, Existence, Attachment, and_parts, and_from, Staging, Publication, false≢true)

-- things that the test takes as the same are one
pub same-tells : (a b : Thing) → same_thing a b ≡ true → a ≡ b
same-tells a b e = grind (arith, same_text-tells, and_parts, false≢true)
