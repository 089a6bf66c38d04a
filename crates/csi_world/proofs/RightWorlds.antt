-- What is kept of every world, and by the items of a history that end nothing.
use Rattle.csi_world.proofs.Words.{◌≡◌, ◌⊎◌, ◌≤◌, List, [], ◌∷◌, true, false, Option, Some, None, find, refl, sym, ap}
use Rattle.csi_world.proofs.Words.{subst, inr, ⊎_elim, arith, Number, is_before, IsBefore, PluginThing, Exists}
use Rattle.csi_world.proofs.Words.{Attached, IsAmong, PluginView, Issued, touches, Item, Accepted, History, with_items}
use Rattle.csi_world.proofs.Words.{issued_by, issued_in, last_in, last_number, World, with_history}
use Rattle.csi_world.proofs.Lemmas.{nat_tests}
use Rattle.csi_types.proofs.Order.{before-trans}
use Rattle.csi_orchestrator.specs.declared.thing.Thing.TheVariants as things
use Rattle.csi_world.proofs.WorldView.{view_of}
use Rattle.csi_world.proofs.GivenIds.{GivenId}
use Rattle.csi_world.proofs.CallThings.{is_of}
use Rattle.csi_world.proofs.Lifetimes.{ends, calls_since, calls_before, latest, over_in, timed-noted}
use Rattle.csi_world.proofs.CreatesFirst.{first-noted}
use Rattle.csi_world.proofs.NotLive.{ended-noted, ended-seen}
use Rattle.csi_world.proofs.Forgotten.{told_by, told_with, closed-told}
use Rattle.csi_world.proofs.HeardReplies.{WasSent}
use Rattle.csi_world.proofs.RepliesTold.{Truth}
use Rattle.csi_world.proofs.StagedAttached.{stands-noted, Stands}
use Rattle.csi_world.proofs.KnownThings.{IsSoFar}
use Rattle.csi_world.proofs.RecordedRight.{IsWell}
use Rattle.csi_world.proofs.PluginsReached.{still-reached}
use Rattle.csi_world.proofs.Floors.{floor-noted}
use Rattle.csi_world.proofs.Deliveries.{PluginLaws, all-closed, IsGood}

-- each sent number is the last one, or before it
abbrev pub IsLast : History → Type 0
IsLast history = (call : Issued) → IsAmong call (issued_in history.items) → (call.number ≡ last_number history) ⊎ IsBefore call.number (last_number history)

-- what comes before a number comes before each later one
pub then-before : (a b c : Number) → IsBefore a b → IsBefore b c → IsBefore a c
then-before a b c h k = is_before-from a c (before-trans a b c (rw h refl) (rw k refl))
  where
    is_before-from : (x y : Number) → is_before x y ≡ true → IsBefore x y
    is_before-from x y e = grind (arith, nat_tests)

-- what is kept of every world
pub record IsRight (world : World) : Type 0 where
  pub good : IsGood world
  pub last : IsLast world.history

-- a number after the last one is after all
pub after-all : (history : History) (number : Number) → IsLast history → IsBefore (last_number history) number → (older : Issued) → IsAmong older (issued_in history.items) → IsBefore older.number number
after-all history number last next older among =
    ⊎_elim (λ e. subst (λ n. IsBefore n number) (sym e) next) (λ before. then-before older.number (last_number history) number before next) (last older among)

-- what an item says was heard was sent
abbrev pub IsTold : World → Item → Type 0
IsTold world (Accepted number status id) = WasSent (issued_in world.history.items) world.frames number status id
IsTold world item = Unit {0}

-- an item that sends nothing and ends nothing, in a session that is no earlier
pub record IsQuiet (began : Number) (items : List Item) (item : Item) : Type 0 where
  pub silent : issued_by item ≡ None
  pub same : issued_in (item ∷ items) ≡ issued_in items
  pub stays : (thing : PluginThing) → ends thing item ≡ false
  pub since : (thing : PluginThing) → calls_since thing (item ∷ items) ≡ calls_since thing items
  pub before : (thing : PluginThing) → calls_before thing (item ∷ items) ≡ calls_before thing items
  pub over : (thing : PluginThing) → over_in began (item ∷ items) thing ≡ over_in began items thing
  pub grows : (last_in began items).session ≤ (last_in began (item ∷ items)).session

-- an item that sends nothing and ends nothing is added
pub noted-right : PluginLaws → (world : World) (item : Item) → IsRight world → IsQuiet world.history.began world.history.items item → IsTold world item → IsLast (with_items world.history (item ∷ [])) → IsRight (with_history (item ∷ []) world)
noted-right laws world item right quiet told last =
    record {
      good = record {
        reached = still-reached world world.config world.frames (with_items world.history (item ∷ [])) right.good.reached;
        given = given;
        floor = floor-noted world (item ∷ []) right.good.floor quiet.grows;
        well = record {
          so_far = record {
            floor = so_far.floor;
            truth = truth;
            closed = closed-told given next (all-closed laws next);
            named = record {
              own_now = λ call among. so_far.named.own_now call (subst (IsAmong call) (quiet.since (Exists call.name)) among);
              own_old = λ call among. so_far.named.own_old call (subst (IsAmong call) (quiet.before (Exists call.name)) among);
              made = λ call reply id create required limit capabilities among. so_far.named.made call reply id create required limit capabilities (subst (IsAmong call) (quiet.since (Exists call.name)) among);
            };
            are_given = so_far.are_given;
            heard = λ number status id among.
                subst (λ (list : List Issued). WasSent list world.frames number status id) (sym quiet.same)
                (⊎_elim (λ e. subst (IsTold world) (sym e) told) (so_far.heard number status id) among);
            stands = subst (Stands (item ∷ items)) (sym told_view)
                (stands-noted items item (told_by given world) quiet.same (λ id node. ap (find (is_of (Attached id node))) (quiet.since (Attached id node))) so_far.stands);
            timed = timed-noted world.history.began items item quiet.stays quiet.silent quiet.grows so_far.timed;
            undone = λ name call found. so_far.undone name call (subst (λ (xs : List Issued). find (touches (things.Exists name)) xs ≡ Some call) (quiet.before (Exists name)) found);
          };
          of_controller = well.of_controller;
          creates = first-noted items item quiet.same (λ name. inr (quiet.since (Exists name))) well.creates;
          ended = ended-seen given (item ∷ items) (view_of world) (view_of next) (λ name. refl) (λ name number spent. spent)
              (ended-noted given given items item (view_of world) quiet.same (λ name id has. (has, quiet.since (Exists name))) well.ended);
          old_spent = λ call among is. well.old_spent call (subst (IsAmong call) (quiet.before (Exists call.name)) among) is;
        };
      };
      last = last;
    }
  where
    given : List GivenId
    given = right.good.given

    well : IsWell world given
    well = right.good.well

    so_far : IsSoFar world.history world.frames (told_by given world) given
    so_far = well.so_far

    items : List Item
    items = world.history.items

    next : World
    next = with_history (item ∷ []) world

    -- the things are as they were
    told_view : told_by given next ≡ told_by given world
    told_view = λ i. told_with given world (λ thing. quiet.over thing i)

    truth : Truth so_far.floor (issued_in (item ∷ items)) (latest (item ∷ items)) world.frames (told_by given next)
    truth =
        subst (λ (list : List Issued). Truth so_far.floor list (latest (item ∷ items)) world.frames (told_by given next)) (sym quiet.same)
        (subst (λ (l : PluginThing → Option Issued). Truth so_far.floor (issued_in items) l world.frames (told_by given next)) (λ i thing. find (is_of thing) (sym (quiet.since thing) i))
        (subst (λ (v : PluginView). Truth so_far.floor (issued_in items) (latest items) world.frames v) (sym told_view) so_far.truth))
