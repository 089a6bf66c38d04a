-- What the plugins' own contracts keep, in every world that their parts show; and what is staged there is attached, where it is
-- so of what is listed.
use Rattle.csi_world.proofs.Words.{◌≡◌, ◌↔◌, ℕ, List, [], ◌∷◌, map, Bool, true, Option, Some, None, IsSome, is_some}
use Rattle.csi_world.proofs.Words.{IsTrue, option_map, find, ◌==◌, ◌&&◌, refl, sym, ◌∙◌, ap, subst, inl, inr}
use Rattle.csi_world.proofs.Words.{AllByRecursion, list_all, Capability, Holding, AreApart, IsAmong, EachTwo, same_text}
use Rattle.csi_world.proofs.Words.{same_capability, ControllerRow, NodeHolding, ControllerParts, volume_of_row}
use Rattle.csi_world.proofs.Words.{holdings_in, Volume, live_volume, NodeParts, IsPublishedRight, StagedVolume}
use Rattle.csi_world.proofs.Words.{staged_shown, NodeLists, NodeAt, World, IsExclusive, IsAttachedAs}
use Rattle.csi_world.proofs.Words.{IsStagedWhereAttached, IsAttachedWhileLive, AreNodesShown, ArePlugins, Lists}
use Rattle.csi_world.proofs.Words.{IsListed, IsPublishing, ArePluginsSafe, is_held_as, is_row_held}
use Rattle.csi_world.proofs.Words.{controller_row_with_id, is_staged_right, is_node_attached}
use Rattle.csi_world.proofs.Lemmas.{and_parts, and_from, eqb-true, eq-eqb, false≢true, true_from_ne_false, each_of}
use Rattle.csi_world.proofs.Lemmas.{among-find, among-filter, in_filter, among-map, in-map, among-by_key, find-and}
use Rattle.csi_world.proofs.Lemmas.{find-passes, find-of_map, all-then, then-all, any-then, then-any, two-by_key}
use Rattle.csi_world.proofs.Lemmas.{same_text-tells, same_capability-tells}
use Rattle.csi_controller.specs.Model.Core.{Shows as ControllerShows}
use Rattle.csi_controller.specs.Public.Exclusive.{IsRowExclusive}
use Rattle.csi_node.specs.declared.entries.Staged.{Staged as StagedEntry}
use Rattle.csi_world.proofs.PluginSafety.{staged_there}
use Rattle.csi_world.proofs.ListedNodes.{listed-of, node-of}

-- ---- the controller

-- any two holdings of the row of an id are apart
row_apart : (rows : List ControllerRow) (id : ℕ) → AllByRecursion IsRowExclusive rows → EachTwo AreApart (holdings_in (find (λ (row : ControllerRow). row.id == id) rows))
row_apart rows id all = by (find (λ (row : ControllerRow). row.id == id) rows) refl
  where
    by : (o : Option ControllerRow) → find (λ (row : ControllerRow). row.id == id) rows ≡ o → EachTwo AreApart (holdings_in o)
    by None e = tt
    by (Some row) e = (each_of IsRowExclusive rows row all (among-find (λ (r : ControllerRow). r.id == id) rows row e)).apart

-- where each row's holdings are apart, any two holdings of one volume in the world are
exclusive : (parts : ControllerParts) (world : World) → AllByRecursion IsRowExclusive parts.rows → ControllerShows parts world.controller → IsExclusive world
exclusive parts world all is =
    two-by_key AreApart (λ (h : Holding). h.volume) world.controller.holdings
    (λ id. subst (EachTwo AreApart) (is.shows.holdings id) (row_apart parts.rows id all))

-- the holding of a row, as the volume's
abbrev pub held_of : ControllerRow → NodeHolding → Holding
held_of row held = record { volume = row.id; node = held.node; capability = held.capability; readonly = held.readonly }

-- and then what is attached in the world wasn't deleted
attached_live : (parts : ControllerParts) (world : World) → AllByRecursion IsRowExclusive parts.rows → ControllerShows parts world.controller → IsAttachedWhileLive world
attached_live parts world all is holding among =
    by (find p parts.rows) refl
    (subst (IsAmong holding) (sym (is.shows.holdings holding.volume))
    (in_filter (λ (h : Holding). h.volume == holding.volume) world.controller.holdings holding among (eq-eqb holding.volume holding.volume refl)))
  where
    p : ControllerRow → Bool
    p row = row.id == holding.volume

    by : (o : Option ControllerRow) → find p parts.rows ≡ o → IsAmong holding (holdings_in o) → IsSome (live_volume holding.volume world.controller)
    by None e there = absurd there
    by (Some row) e there =
        let rule = each_of IsRowExclusive parts.rows row all (among-find p parts.rows row e) in
        let live : row.live ≡ true = true_from_ne_false row.live (λ gone. subst (λ (items : List NodeHolding). IsAmong holding (map (held_of row) items)) (rule.live gone) there) in
        let both : find (λ (r : ControllerRow). (r.id == holding.volume) && r.live) parts.rows ≡ Some row = find-and p (λ (r : ControllerRow). r.live) parts.rows row e live in
        let test : Volume → Bool = λ volume. (volume.id == holding.volume) && volume.is_live in
        ap is_some (ap (find test) (sym is.shows.volumes) ∙ find-of_map test volume_of_row parts.rows ∙ ap (option_map volume_of_row) both)

-- ---- the nodes

-- where each node's parts show only states in which what is published is staged, each node of the world is in such a state
shown_by : (nodes : List NodeParts) (ns : List NodeAt) → AreNodesShown nodes ns → AllByRecursion IsPublishing nodes → (n : NodeAt) → IsAmong n ns → IsPublishedRight n.state
shown_by [] [] are all n among = absurd among
shown_by [] (m ∷ ms) are all n among = absurd are
shown_by (p ∷ ps) [] are all n among = absurd among
shown_by (p ∷ ps) (m ∷ ms) are all n (inl e) = subst (λ (k : NodeAt). IsPublishedRight k.state) (sym e) (all.0 m.state are.1)
shown_by (p ∷ ps) (m ∷ ms) are all n (inr there) = shown_by ps ms are.2 all.1 n there

-- then each world that the parts show is safe in all that the plugins keep by themselves
pub plugins-safe : (parts : ControllerParts) (nodes : List NodeParts) (world : World) → AllByRecursion IsRowExclusive parts.rows → AllByRecursion IsPublishing nodes
    → ArePlugins parts nodes world → ArePluginsSafe world
plugins-safe parts nodes world rows publishing are =
    record {
      exclusive = exclusive parts world rows are.controller;
      published_where_staged = λ n p at published. staged_there n.state p.volume p.capability ((shown_by nodes world.nodes are.nodes publishing n at).staged p published);
      attached_while_live = attached_live parts world rows are.controller;
    }

-- ---- what is staged is attached

-- the lists of a world's plugins
module _ (lists : Lists) (world : World) (is : IsListed lists world) where
  -- a row's volume that is held so is attached so
  row_attached : (id : ℕ) (node : List ℕ) (capability : Capability) → is_row_held node capability (controller_row_with_id id lists.rows) ≡ true → IsAttachedAs world id node capability
  row_attached id node capability = by (controller_row_with_id id lists.rows) refl
    where
      by : (o : Option ControllerRow) → controller_row_with_id id lists.rows ≡ o → is_row_held node capability o ≡ true → IsAttachedAs world id node capability
      by None e h = absurd (false≢true h)
      by (Some row) e h =
          let found = any-then (is_held_as node capability) row.holdings.items h in
          let parts = and_parts (same_text (found.0).node node) (same_capability (found.0).capability capability) found.2 in
          let own : IsAmong (held_of row found.0) (holdings_in (Some row)) = in-map (held_of row) row.holdings.items found.0 found.1 in
          let there = subst (IsAmong (held_of row found.0)) (ap holdings_in (sym e) ∙ is.holdings id) own in
          record {
            holding = held_of row found.0;
            is_held = among-filter (λ (x : Holding). x.volume == id) world.controller.holdings (held_of row found.0) there;
            of_volume = eqb-true row.id id (find-passes (λ (r : ControllerRow). r.id == id) lists.rows row e);
            at_node = (same_text-tells (found.0).node node).0 parts.0;
            same_capability = (same_capability-tells (found.0).capability capability).0 parts.1;
          }

  -- what is attached so is held so by the row of its id
  attached_row : (id : ℕ) (node : List ℕ) (capability : Capability) → IsAttachedAs world id node capability → is_row_held node capability (controller_row_with_id id lists.rows) ≡ true
  attached_row id node capability at =
      by (controller_row_with_id id lists.rows)
      (subst (IsAmong at.holding) (sym (is.holdings id))
      (in_filter (λ (x : Holding). x.volume == id) world.controller.holdings at.holding at.is_held (eq-eqb (at.holding).volume id at.of_volume)))
    where
      by : (o : Option ControllerRow) → IsAmong at.holding (holdings_in o) → is_row_held node capability o ≡ true
      by None there = absurd there
      by (Some row) there =
          let entry = among-map (held_of row) row.holdings.items at.holding there in
          let place = (same_text-tells (entry.0).node node).1 (ap (λ (x : Holding). x.node) (sym entry.2) ∙ at.at_node) in
          let same = (same_capability-tells (entry.0).capability capability).1 (ap (λ (x : Holding). x.capability) (sym entry.2) ∙ at.same_capability) in
          then-any (is_held_as node capability) row.holdings.items entry.0 entry.1 (and_from _ _ place same)

  -- where the test of all listed nodes passes, what is staged is attached
  to_attached : list_all (is_node_attached lists.rows) lists.nodes ≡ true → IsStagedWhereAttached world
  to_attached h n s at staged =
      let found = listed-of lists.nodes world.nodes is.nodes n at in
      let k : NodeLists = found.0 in
      let own = among-by_key (λ (x : StagedVolume). x.volume) (n.state).staged (map staged_shown k.staged.items) (λ id. sym ((found.2).staged id)) s staged in
      let kept = among-map staged_shown k.staged.items s own in
      let x : StagedEntry = kept.0 in
      let test = all-then (is_staged_right lists.rows k.id) k.staged.items (all-then (is_node_attached lists.rows) lists.nodes h k found.1) x kept.1 in
      subst (λ (y : StagedVolume). IsAttachedAs world y.volume n.id y.capability) (sym kept.2)
      (subst (λ (id : List ℕ). IsAttachedAs world x.id id x.capability) (found.2).id (row_attached x.id k.id x.capability test))

  -- and the other way round
  from_attached : IsStagedWhereAttached world → list_all (is_node_attached lists.rows) lists.nodes ≡ true
  from_attached attached =
      then-all (is_node_attached lists.rows) lists.nodes (λ k at.
      then-all (is_staged_right lists.rows k.id) k.staged.items (λ x staged.
      let found = node-of lists.nodes world.nodes is.nodes k at in
      let list : List StagedVolume = (found.0).state.staged in
      let there = among-by_key (λ (y : StagedVolume). y.volume) (map staged_shown k.staged.items) list (found.2).staged (staged_shown x) (in-map staged_shown k.staged.items x staged) in
      attached_row x.id k.id x.capability (subst (λ (id : List ℕ). IsAttachedAs world x.id id x.capability) (sym (found.2).id) (attached found.0 (staged_shown x) found.1 there))))

  -- the test of all listed nodes tells whether what is staged is attached
  pub staged-told : (b : Bool) → b ≡ list_all (is_node_attached lists.rows) lists.nodes → IsTrue b ↔ IsStagedWhereAttached world
  staged-told b e = (λ h. to_attached (sym e ∙ h), λ staged. e ∙ from_attached staged)
