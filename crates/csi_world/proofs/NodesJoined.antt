-- What is so of a world after a node joined.
use Rattle.csi_world.proofs.Words.{◌≡◌, ℕ, ◌<◌, ◌≤◌, List, Bool, true, false, cond, Option, Some, None, IsTrue, refl}
use Rattle.csi_world.proofs.Words.{sym, ◌∙◌, ap, inl, ⊎_elim, arith, Number, same_text, PluginThing, Exists, Attached}
use Rattle.csi_world.proofs.Words.{Staged, Published, Kept, is_over, NodeState, joined_node, Item, issued_in}
use Rattle.csi_world.proofs.Words.{last_number, World, node_state, with_new_node}
use Rattle.csi_world.proofs.Lemmas.{or_cases, or_left, or_right, none-some}
use Rattle.csi_world.proofs.WorldView.{over_at, node_view, view_of}
use Rattle.csi_world.proofs.GivenIds.{GivenId}
use Rattle.csi_world.proofs.Lifetimes.{latest, is-over, over-earlier}
use Rattle.csi_world.proofs.NotLive.{ended-seen}
use Rattle.csi_world.proofs.Forgotten.{is_told, told_by, closed-told}
use Rattle.csi_world.proofs.RepliesTold.{AreEnding, truth-ended}
use Rattle.csi_world.proofs.StagedAttached.{stands-ended}
use Rattle.csi_world.proofs.KnownThings.{IsSoFar}
use Rattle.csi_world.proofs.RecordedRight.{IsWell}
use Rattle.csi_world.proofs.PluginsReached.{joined-other, joined-none, joined-reached}
use Rattle.csi_world.proofs.Floors.{floor-joined}
use Rattle.csi_world.proofs.Deliveries.{PluginLaws, all-closed}
use Rattle.csi_world.proofs.RightWorlds.{IsRight}

-- a node joins, and is told the session of the last number
module _ (laws : PluginLaws) (world : World) (right : IsRight world) (node : List ℕ) (none : node_state node world ≡ None) where
  abbrev given : List GivenId
  given = right.good.given

  well : IsWell world given
  well = right.good.well

  so_far : IsSoFar world.history world.frames (told_by given world) given
  so_far = well.so_far

  abbrev items : List Item
  items = world.history.items

  -- the present session
  abbrev session : ℕ
  session = (last_number world.history).session

  -- the world with it
  abbrev next : World
  next = with_new_node session node world

  -- a thing of a node that isn't there before, and may be new
  module _ (at : List ℕ) (k : PluginThing) (held : (b : Bool) → (node_view at (over_at world) (cond b (Some (joined_node session)) None)).held k ≡ None) (kept : (b : Bool) → (node_view at (over_at world) (cond b (Some (joined_node session)) None)).kept k ≡ None) where
    -- what is spent
    new-spent : (b : Bool) (number : Number) → IsTrue ((node_view at (over_at world) None).is_spent k number) → IsTrue ((node_view at (over_at world) (cond b (Some (joined_node session)) None)).is_spent k number)
    new-spent true number over =
        or_left (is_over session number) _ (is-over session number (up number (so_far.timed.begun k) (over-earlier (over_at world k) number over)))
      where
        up : (number : Number) → over_at world k ≤ session → number.session < over_at world k → number.session < session
        up number less more = omega (arith, less, more)
    new-spent false number over = over

    -- the node's view then
    view-same : (o : Option NodeState) → node_state at world ≡ o
        → ((node_view at (over_at world) (node_state at next)).held k ≡ (node_view at (over_at world) o).held k)
        × ((number : Number) → IsTrue ((node_view at (over_at world) o).is_spent k number) → IsTrue ((node_view at (over_at world) (node_state at next)).is_spent k number))
        × ((x : Kept) → (node_view at (over_at world) (node_state at next)).kept k ≡ Some x → (node_view at (over_at world) o).kept k ≡ Some x)
    view-same (Some state) e =
        let same : node_state at next ≡ Some state = joined-other session node at world state e in (
          ap (λ o. (node_view at (over_at world) o).held k) same,
          (λ number spent. ap (λ o. (node_view at (over_at world) o).is_spent k number) same ∙ spent),
          (λ x is. sym (ap (λ o. (node_view at (over_at world) o).kept k) same) ∙ is),
        )
    view-same None e =
        let new : node_state at next ≡ cond (same_text node at) (Some (joined_node session)) None = joined-none session node at world e in (
          ap (λ o. (node_view at (over_at world) o).held k) new ∙ held (same_text node at),
          (λ number spent. ap (λ o. (node_view at (over_at world) o).is_spent k number) new ∙ new-spent (same_text node at) number spent),
          (λ x is. absurd (none-some x (sym (ap (λ o. (node_view at (over_at world) o).kept k) new ∙ kept (same_text node at)) ∙ is))),
        )

  -- nothing is staged or published at a node that joined
  cond-none : {A : Type 0} (b : Bool) → cond {A = Option A} b None None ≡ None
  cond-none true = refl
  cond-none false = refl

  -- all is as it was, but that more is spent
  ending : AreEnding (issued_in items) (latest items) (latest items) (told_by given world) (told_by given next)
  ending (Exists name) = inl (record { latest = refl; held = refl; spent = λ call among of spent. spent; kept = λ x is. is })
  ending (Attached id at) = inl (record { latest = refl; held = refl; spent = λ call among of spent. spent; kept = λ x is. is })
  ending (Staged id at) =
      let same = view-same at (Staged id at) held kept (node_state at world) refl in
      inl (record {
        latest = refl;
        held = same.0;
        spent = λ call among of spent.
            ⊎_elim (λ plain. or_left ((view_of next).is_spent (Staged id at) call.number) (is_told given next (Staged id at) call.number) (same.1 call.number plain))
            (λ told. or_right ((view_of next).is_spent (Staged id at) call.number) (is_told given next (Staged id at) call.number) told)
            (or_cases ((view_of world).is_spent (Staged id at) call.number) (is_told given world (Staged id at) call.number) spent);
        kept = same.2;
      })
    where
      held : (b : Bool) → (node_view at (over_at world) (cond b (Some (joined_node session)) None)).held (Staged id at) ≡ None
      held true = cond-none (same_text at at)
      held false = refl

      kept : (b : Bool) → (node_view at (over_at world) (cond b (Some (joined_node session)) None)).kept (Staged id at) ≡ None
      kept true = cond-none (same_text at at)
      kept false = refl
  ending (Published id at target) =
      let same = view-same at (Published id at target) held kept (node_state at world) refl in
      inl (record {
        latest = refl;
        held = same.0;
        spent = λ call among of spent.
            ⊎_elim (λ plain. or_left ((view_of next).is_spent (Published id at target) call.number) (is_told given next (Published id at target) call.number) (same.1 call.number plain))
            (λ told. or_right ((view_of next).is_spent (Published id at target) call.number) (is_told given next (Published id at target) call.number) told)
            (or_cases ((view_of world).is_spent (Published id at target) call.number) (is_told given world (Published id at target) call.number) spent);
        kept = same.2;
      })
    where
      held : (b : Bool) → (node_view at (over_at world) (cond b (Some (joined_node session)) None)).held (Published id at target) ≡ None
      held true = cond-none (same_text at at)
      held false = refl

      kept : (b : Bool) → (node_view at (over_at world) (cond b (Some (joined_node session)) None)).kept (Published id at target) ≡ None
      kept true = cond-none (same_text at at)
      kept false = refl

  -- the node joins
  pub joins-right : IsRight next
  unfolding so_far well
  joins-right =
      record {
        good = record {
          reached = joined-reached session node world none right.good.reached;
          given = given;
          floor = floor-joined world session node right.good.floor.last right.good.floor;
          well = record {
            so_far = record {
              floor = so_far.floor;
              truth = truth-ended so_far.floor (issued_in items) (latest items) (latest items) world.frames (told_by given world) (told_by given next) ending so_far.truth;
              closed = closed-told given next (all-closed laws next);
              named = so_far.named;
              are_given = so_far.are_given;
              heard = so_far.heard;
              stands = stands-ended items (latest items) (latest items) (told_by given world) (told_by given next) ending so_far.stands;
              timed = so_far.timed;
              undone = so_far.undone;
            };
            of_controller = well.of_controller;
            creates = well.creates;
            ended = ended-seen given items (view_of world) (view_of next) (λ name. refl) (λ name number spent. spent) well.ended;
            old_spent = well.old_spent;
          };
        };
        last = right.last;
      }
