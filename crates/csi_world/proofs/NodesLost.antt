-- What is so of a world after a node was lost.
use Rattle.csi_world.proofs.Words.{◌≡◌, ◌⊎◌, ℕ, ◌<◌, List, [], ◌∷◌, Bool, true, false, cond, Option, Some, None, find}
use Rattle.csi_world.proofs.Words.{IsTrue, refl, sym, ◌∙◌, ap, subst, inl, inr, ⊎_elim, Number, Status, same_text}
use Rattle.csi_world.proofs.Words.{PluginThing, Exists, Attached, Staged, Published, is_over, IsAmong, NodeState}
use Rattle.csi_world.proofs.Words.{Issued, Item, Accepted, Lost, since, issued_in, last_number, World, node_state}
use Rattle.csi_world.proofs.Words.{without_node, with_history}
use Rattle.csi_world.proofs.Lemmas.{or_cases, or_left, or_right, none-some, same_text-tells}
use Rattle.csi_world.proofs.WorldView.{over_at, node_view, view_of}
use Rattle.csi_world.proofs.GivenIds.{GivenId}
use Rattle.csi_world.proofs.CallThings.{is_of}
use Rattle.csi_world.proofs.Lifetimes.{ends, latest, is-over, timed-ended}
use Rattle.csi_world.proofs.CreatesFirst.{first-noted}
use Rattle.csi_world.proofs.NotLive.{ended-noted, ended-seen}
use Rattle.csi_world.proofs.Forgotten.{is_told, told_by, closed-told}
use Rattle.csi_world.proofs.RepliesTold.{IsSameThing, IsOver, AreEnding, truth-ended}
use Rattle.csi_world.proofs.StagedAttached.{stands-ended, stands-noted}
use Rattle.csi_world.proofs.KnownThings.{IsSoFar}
use Rattle.csi_world.proofs.RecordedRight.{IsWell}
use Rattle.csi_world.proofs.PluginsReached.{lost-other, lost-same, lost-reached}
use Rattle.csi_world.proofs.Floors.{floor-lost}
use Rattle.csi_world.proofs.Deliveries.{PluginLaws, all-closed}
use Rattle.csi_world.proofs.RightWorlds.{IsRight}

-- where a node's things ended changes nothing that is there, and what is spent by it alone
pub node-held : (id : List ℕ) (over other : PluginThing → ℕ) (o : Option NodeState) (k : PluginThing) → (node_view id over o).held k ≡ (node_view id other o).held k
node-held id over other None k = refl
node-held id over other (Some state) k = refl

pub node-spent : (id : List ℕ) (over other : PluginThing → ℕ) (o : Option NodeState) (k : PluginThing) (number : Number) → over k ≡ other k → (node_view id over o).is_spent k number ≡ (node_view id other o).is_spent k number
node-spent id over other None k number same = ap (λ s. is_over s number) same
node-spent id over other (Some state) k number same = refl

pub node-kept : (id : List ℕ) (over other : PluginThing → ℕ) (o : Option NodeState) (k : PluginThing) → (node_view id over o).kept k ≡ (node_view id other o).kept k
node-kept id over other None k = refl
node-kept id over other (Some state) k = refl

-- a node is lost where a session has begun
module _ (laws : PluginLaws) (world : World) (right : IsRight world) (node : List ℕ)
    (earlier : (call : Issued) → IsAmong call (issued_in world.history.items) → call.number.session < (last_number world.history).session) where
  abbrev given : List GivenId
  given = right.good.given

  well : IsWell world given
  well = right.good.well

  so_far : IsSoFar world.history world.frames (told_by given world) given
  so_far = well.so_far

  abbrev items : List Item
  items = world.history.items

  abbrev item : Item
  item = Lost node

  -- the world without it
  abbrev next : World
  next = without_node node (with_history (item ∷ []) world)

  -- what is staged or published there has ended, and all else is as it was
  ending : AreEnding (issued_in items) (latest items) (latest (item ∷ items)) (told_by given world) (told_by given next)
  ending (Exists name) = inl (record { latest = refl; held = refl; spent = λ call among of spent. spent; kept = λ x is. is })
  ending (Attached id at) = inl (record { latest = refl; held = refl; spent = λ call among of spent. spent; kept = λ x is. is })
  ending (Staged id at) = by (same_text at node) refl
    where
      k : PluginThing
      k = Staged id at

      by : (b : Bool) → same_text at node ≡ b → IsSameThing (issued_in items) (latest items) (latest (item ∷ items)) (told_by given world) (told_by given next) k ⊎ IsOver (issued_in items) (latest (item ∷ items)) (told_by given world) (told_by given next) k
      by true e =
          let none : node_state at next ≡ None = ap (λ n. node_state n next) ((same_text-tells at node).0 e) ∙ lost-same node world in
          inr (record {
            latest = ap (λ b. find (is_of k) (issued_in (cond b [] (item ∷ since (ends k) items)))) e;
            held = ap (λ o. (node_view at (over_at next) o).held k) none;
            spent = λ call among of.
                or_left ((view_of next).is_spent k call.number) (is_told given next k call.number)
                (ap (λ o. (node_view at (over_at next) o).is_spent k call.number) none
                ∙ subst (λ b. IsTrue (is_over (cond b (last_number world.history).session (over_at world k)) call.number)) (sym e) (is-over (last_number world.history).session call.number (earlier call among)));
            kept = λ x is. absurd (none-some x (sym (ap (λ o. (node_view at (over_at next) o).kept k) none) ∙ is));
          })
      by false e =
          let same : node_state at next ≡ node_state at world = lost-other node at world e in
          let over : over_at next k ≡ over_at world k = ap (λ b. cond b (last_number world.history).session (over_at world k)) e in
          inl (record {
            latest = ap (λ b. find (is_of k) (issued_in (cond b [] (item ∷ since (ends k) items)))) e;
            held = ap (λ o. (node_view at (over_at next) o).held k) same ∙ node-held at (over_at next) (over_at world) (node_state at world) k;
            spent = λ call among of spent.
                ⊎_elim (λ plain. or_left ((view_of next).is_spent k call.number) (is_told given next k call.number)
                (ap (λ o. (node_view at (over_at next) o).is_spent k call.number) same ∙ node-spent at (over_at next) (over_at world) (node_state at world) k call.number over ∙ plain))
                (λ told. or_right ((view_of next).is_spent k call.number) (is_told given next k call.number) told)
                (or_cases ((view_of world).is_spent k call.number) (is_told given world k call.number) spent);
            kept = λ x is. sym (node-kept at (over_at next) (over_at world) (node_state at world) k) ∙ sym (ap (λ o. (node_view at (over_at next) o).kept k) same) ∙ is;
          })
  ending (Published id at target) = by (same_text at node) refl
    where
      k : PluginThing
      k = Published id at target

      by : (b : Bool) → same_text at node ≡ b → IsSameThing (issued_in items) (latest items) (latest (item ∷ items)) (told_by given world) (told_by given next) k ⊎ IsOver (issued_in items) (latest (item ∷ items)) (told_by given world) (told_by given next) k
      by true e =
          let none : node_state at next ≡ None = ap (λ n. node_state n next) ((same_text-tells at node).0 e) ∙ lost-same node world in
          inr (record {
            latest = ap (λ b. find (is_of k) (issued_in (cond b [] (item ∷ since (ends k) items)))) e;
            held = ap (λ o. (node_view at (over_at next) o).held k) none;
            spent = λ call among of.
                or_left ((view_of next).is_spent k call.number) (is_told given next k call.number)
                (ap (λ o. (node_view at (over_at next) o).is_spent k call.number) none
                ∙ subst (λ b. IsTrue (is_over (cond b (last_number world.history).session (over_at world k)) call.number)) (sym e) (is-over (last_number world.history).session call.number (earlier call among)));
            kept = λ x is. absurd (none-some x (sym (ap (λ o. (node_view at (over_at next) o).kept k) none) ∙ is));
          })
      by false e =
          let same : node_state at next ≡ node_state at world = lost-other node at world e in
          let over : over_at next k ≡ over_at world k = ap (λ b. cond b (last_number world.history).session (over_at world k)) e in
          inl (record {
            latest = ap (λ b. find (is_of k) (issued_in (cond b [] (item ∷ since (ends k) items)))) e;
            held = ap (λ o. (node_view at (over_at next) o).held k) same ∙ node-held at (over_at next) (over_at world) (node_state at world) k;
            spent = λ call among of spent.
                ⊎_elim (λ plain. or_left ((view_of next).is_spent k call.number) (is_told given next k call.number)
                (ap (λ o. (node_view at (over_at next) o).is_spent k call.number) same ∙ node-spent at (over_at next) (over_at world) (node_state at world) k call.number over ∙ plain))
                (λ told. or_right ((view_of next).is_spent k call.number) (is_told given next k call.number) told)
                (or_cases ((view_of world).is_spent k call.number) (is_told given world k call.number) spent);
            kept = λ x is. sym (node-kept at (over_at next) (over_at world) (node_state at world) k) ∙ sym (ap (λ o. (node_view at (over_at next) o).kept k) same) ∙ is;
          })

  -- the node is lost
  pub loses-right : IsRight next
  unfolding so_far well
  loses-right =
      record {
        good = record {
          reached = let still = lost-reached node world right.good.reached in record { controller = still.controller; nodes = still.nodes; alike = still.alike };
          given = given;
          floor = floor-lost (with_history (item ∷ []) world) node (record { controller = right.good.floor.controller; nodes = right.good.floor.nodes; last = right.good.floor.last });
          well = record {
            so_far = record {
              floor = so_far.floor;
              truth = truth-ended so_far.floor (issued_in items) (latest items) (latest (item ∷ items)) world.frames (told_by given world) (told_by given next) ending so_far.truth;
              closed = closed-told given next (all-closed laws next);
              named = record { own_now = so_far.named.own_now; own_old = so_far.named.own_old; made = so_far.named.made };
              are_given = so_far.are_given;
              heard = λ number status id among. ⊎_elim (λ e. absurd (clash number status id e)) (λ there. so_far.heard number status id there) among;
              stands = stands-noted items item (told_by given next) refl (λ id at. refl) (stands-ended items (latest items) (latest (item ∷ items)) (told_by given world) (told_by given next) ending so_far.stands);
              timed = timed-ended world.history.began items item refl refl earlier so_far.timed;
              undone = so_far.undone;
            };
            of_controller = well.of_controller;
            creates = first-noted items item refl (λ name. inr refl) well.creates;
            ended = ended-seen given (item ∷ items) (view_of world) (view_of next) (λ name. refl) (λ name number spent. spent)
                (ended-noted given given items item (view_of world) refl (λ name id has. (has, refl)) well.ended);
            old_spent = well.old_spent;
          };
        };
        last = right.last;
      }
    where
      clash : (number : Number) (status : Status) (id : Option ℕ) → Accepted number status id ≡ Lost node → ⊥
      clash number status id e = cc
