-- What the lines of the table answer at a row, by what the row holds.
use Rattle.std.proofs.Common.{◌≡◌, ℕ, Bool, true, cond, not, List, map, length, ◌∙◌, ap}
use Rattle.std.specs.Prelude.{Option, Some, None, find, option_map, ◌||◌, nat_le, codes}
use Rattle.std.proofs.lemmas.List.{length-map}
use Rattle.csi_types.proofs.Searches.{find-of_map}
use Rattle.csi_types.specs.declared.config.NodeSlots.{NodeSlots}
use Rattle.csi_types.specs.declared.status.Status.TheVariants.{AlreadyExists, ResourceExhausted}
use Rattle.csi_types.specs.Model.Config.{has_node}
use Rattle.csi_types.specs.Model.Holding.{is_compatible, same_holding}
use Rattle.csi_types.specs.Model.Same.{has_capability}
use Rattle.csi_controller.specs.declared.row.NodeHolding.{NodeHolding}
use Rattle.csi_controller.specs.Model.State.{holding_at, holdings_of, live_volume}
use Rattle.csi_controller.specs.Model.Table.{Outcome, Attaches, refused, met, done, attach, delete, publish, publish_held, unpublish}
use Rattle.csi_controller.specs.Public.Core.{volume_holding}
use Rattle.csi_controller.specs.Public.OneRow.{RowShown, state_shown}
use Rattle.csi_controller.specs.Private.OneRow.{held_of_row}
use Rattle.csi_controller.proofs.RowTable.{alone, held_at-seen}

-- ControllerUnpublishVolume, by how the row's volume is held at the node
pub unpublish-line : (row : RowShown) (node : List ℕ) (o : Option NodeHolding) → held_of_row row node ≡ o
    → unpublish row.volume.id node (holding_at row.volume.id node (state_shown row)) ≡ unpublish row.volume.id node (option_map (volume_holding row.volume.id) o)
unpublish-line row node o is = ap (unpublish row.volume.id node) (held_at-seen (state_shown row) row node (alone row) ∙ ap (option_map (volume_holding row.volume.id)) is)

-- DeleteVolume, by whether the row's volume is live, and where it is held
pub delete-line : (row : RowShown) → delete row.volume.id (holdings_of row.volume.id (state_shown row)) (live_volume row.volume.id (state_shown row))
    ≡ delete row.volume.id (map (volume_holding row.volume.id) row.items) (cond row.volume.is_live (Some row.volume) None)
delete-line row = let seen = alone row in λ i. delete row.volume.id (seen.held i) (seen.live i)

module _ (row : RowShown) (nodes : List NodeSlots) (full : Bool) (wanted : NodeHolding) (live : row.volume.is_live ≡ true) (node : has_node wanted.node nodes ≡ true)
    (able : has_capability row.volume.capabilities wanted.capability ≡ true) where
  -- what ControllerPublishVolume is answered at the row
  abbrev answered : Outcome
  answered = publish (record { greatest = 0; nodes = nodes }) full (state_shown row) (volume_holding row.volume.id wanted) (cond row.volume.is_live (Some row.volume) None)

  -- where there is room
  abbrev attached : Outcome
  attached = done (Attaches (volume_holding row.volume.id wanted))

  -- by how the volume is held at the node
  publish-held : (o : Option NodeHolding) → held_of_row row wanted.node ≡ o
      → answered ≡ publish_held full (map (volume_holding row.volume.id) row.items) (volume_holding row.volume.id wanted) (option_map (volume_holding row.volume.id) o)
  publish-held o is =
      let held = (alone row).held in
      let at = held_at-seen (state_shown row) row wanted.node (alone row) ∙ ap (option_map (volume_holding row.volume.id)) is in
      rw (live, node, able) (λ i. publish_held full (held i) (volume_holding row.volume.id wanted) (at i))

  -- it is held there
  pub publish-there : (held : NodeHolding) (same : Bool) → held_of_row row wanted.node ≡ Some held → same_holding (volume_holding row.volume.id held) (volume_holding row.volume.id wanted) ≡ same
      → answered ≡ cond same met (refused AlreadyExists (codes "held otherwise"))
  publish-there held same is e = publish-held (Some held) is ∙ ap (λ (b : Bool). cond b met (refused AlreadyExists (codes "held otherwise"))) e

  -- it isn't: by the first holding that can't be beside this one
  pub publish-apart : (o : Option NodeHolding) → held_of_row row wanted.node ≡ None
      → find (λ (other : NodeHolding). not (is_compatible (volume_holding row.volume.id wanted) (volume_holding row.volume.id other))) row.items ≡ o
      → answered ≡ attach full (map (volume_holding row.volume.id) row.items) (volume_holding row.volume.id wanted) (option_map (volume_holding row.volume.id) o)
  publish-apart o none e =
      publish-held None none
      ∙ ap (attach full (map (volume_holding row.volume.id) row.items) (volume_holding row.volume.id wanted))
      (find-of_map (λ other. not (is_compatible (volume_holding row.volume.id wanted) other)) (volume_holding row.volume.id) row.items ∙ ap (option_map (volume_holding row.volume.id)) e)

  -- and where each can, by whether the node or the volume is full
  pub publish-room : (b : Bool) → held_of_row row wanted.node ≡ None
      → find (λ (other : NodeHolding). not (is_compatible (volume_holding row.volume.id wanted) (volume_holding row.volume.id other))) row.items ≡ None → (full || nat_le 64 (length row.items)) ≡ b
      → answered ≡ cond b (refused ResourceExhausted (codes "slots")) attached
  publish-room b none beside e =
      publish-apart None none beside
      ∙ ap (λ (n : ℕ). cond (full || nat_le 64 n) (refused ResourceExhausted (codes "slots")) attached) (length-map row.items (volume_holding row.volume.id))
      ∙ ap (λ (b : Bool). cond b (refused ResourceExhausted (codes "slots")) attached) e
