-- The rows that are read of the records are those of the states that the records show.
use Rattle.std.proofs.Common.{◌≡◌, ℕ, List, [], ◌∷◌, map, refl, sym, ◌∙◌, ap, inl, inr}
use Rattle.std.specs.Prelude.{◌==◌, Option, Some, None, find, filter, option_map, option_and_then, option_to_list}
use Rattle.csi_types.specs.Model.Members.{IsAmong}
use Rattle.csi_types.proofs.Filters.{filter-of_map}
use Rattle.csi_types.proofs.Maps.{map-twice}
use Rattle.csi_types.proofs.Members.{among-filter}
use Rattle.csi_types.proofs.Searches.{find-first, first_of_list}
use Rattle.csi_types.specs.declared.capability.Capability.{Capability}
use Rattle.csi_types.specs.Model.Same.{same_text}
use Rattle.csi_controller.specs.declared.row.ControllerRow.{ControllerRow}
use Rattle.csi_controller.specs.declared.row.NodeHolding.{NodeHolding}
use Rattle.csi_controller.specs.Model.State.{Volume, ControllerState, holdings_of}
use Rattle.csi_controller.specs.Model.Shown.{volume_of_row, holdings_in_row, holdings_in}
use Rattle.csi_controller.specs.Public.Core.{AreRisingRows, volume_holding}
use Rattle.csi_controller.specs.Public.Views as controller
use Rattle.csi_controller.proofs.Sound.{two-rise, found-rising}
use Rattle.csi_node.specs.declared.row.NodeRow.{NodeRow}
use Rattle.csi_node.specs.declared.row.NodeTarget.{NodeTarget}
use Rattle.csi_node.specs.Model.State.{NodeState, StagedVolume, PublishedVolume, staged_of}
use Rattle.csi_node.specs.Model.Record.{NodeParts}
use Rattle.csi_node.specs.Model.Shown.{RowsShow, row_in, staged_in, published_in, published_in_row}
use Rattle.csi_orchestrator.specs.declared.row.TargetEntry.{TargetEntry}
use Rattle.csi_orchestrator.specs.declared.thing.Known.TheVariants.{Yes}
use Rattle.csi_recovery.specs.Public.Recovered.{GivenNode, target_of, entry_by, entry_at, entry_of, row_with, recovered_row, recovered_rows}
use Rattle.csi_recovery.specs.Public.Judged.{IsKeptOf, AreGiven}
use Rattle.csi_recovery.specs.Private.Walks.{targets_by, targets_of, entry_so, entry_with, entry_from, published_there, row_from}
use Rattle.csi_recovery.proofs.Given.{FoundSo, found-so}

-- how a row is staged, if there is one
abbrev staged_by_row : Option NodeRow → Option Capability
staged_by_row None = None
staged_by_row (Some row) = row.staged

-- the first of what is there is it
first-staged : (o : Option NodeRow) → first_of_list (staged_in o) ≡ staged_by_row o
first-staged None = refl
first-staged (Some row) = by row.staged
  where
    by : (o : Option Capability) → first_of_list (option_to_list o) ≡ o
    by None = refl
    by (Some capability) = refl

-- how the volume is staged is how its row is
staged-told : (rows : List NodeRow) (state : NodeState) (id : ℕ) → RowsShow rows state → staged_of id state ≡ staged_by_row (row_in id rows)
staged-told rows state id shows =
    find-first (λ (s : StagedVolume). s.volume == id) (λ (s : StagedVolume). s.capability) state.staged
    ∙ ap first_of_list (sym (shows.staged id))
    ∙ first-staged (row_in id rows)

-- the entry by a row of the node is the one by how the volume is staged and published
by-row : (held : NodeHolding) (id : ℕ) (o : Option NodeRow) → entry_with held (option_and_then targets_of o) ≡ entry_by (volume_holding id held) (staged_by_row o) (published_in o)
by-row held id None = refl
by-row held id (Some row) = by row.staged
  where
    targets : (capability : Capability) (there : List NodeTarget) → entry_with held (Some there)
        ≡ entry_by (volume_holding id held) (Some capability) (map (λ (t : NodeTarget). let p : PublishedVolume = record { volume = row.id; target = t.target; capability = capability; readonly = t.readonly } in p) there)
    targets capability [] = refl
    targets capability (t ∷ ts) =
        ap (λ (l : List TargetEntry). entry_so held Yes (published_there t ∷ l))
        (sym (map-twice target_of (λ (t : NodeTarget). let p : PublishedVolume = record { volume = row.id; target = t.target; capability = capability; readonly = t.readonly } in p) published_there ts (λ x. refl)))

    by : (staged : Option Capability) → entry_with held (targets_by row staged) ≡ entry_by (volume_holding id held) staged (published_in_row row staged)
    by None = refl
    by (Some capability) = targets capability row.targets.items

-- the entry of a holding
entry-told : (given : List NodeParts) (known : List GivenNode) (id : ℕ) (held : NodeHolding) → AreGiven given known → entry_from given id held ≡ entry_of known (volume_holding id held)
entry-told given known id held are =
    by (find (λ (kept : NodeParts). same_text kept.id held.node) given) (find (λ (node : GivenNode). same_text node.id held.node) known) (found-so held.node given known are)
  where
    by : (o : Option NodeParts) (p : Option GivenNode) → FoundSo o p
        → entry_with held (option_and_then targets_of (option_and_then (λ (kept : NodeParts). row_in id kept.rows) o)) ≡ entry_at (volume_holding id held) (option_map (λ (node : GivenNode). node.state) p)
    by None None so = refl
    by None (Some node) so = absurd so
    by (Some kept) None so = absurd so
    by (Some kept) (Some node) so =
        by-row held id (row_in id kept.rows)
        ∙ ap (λ (staged : Option Capability). entry_by (volume_holding id held) staged (published_in (row_in id kept.rows))) (sym (staged-told kept.rows node.state id so.shows.shows))
        ∙ ap (λ (published : List PublishedVolume). entry_by (volume_holding id held) (staged_of id node.state) published) (so.shows.shows.published id)

-- the row of a volume
row-told : (kept : controller.RecordParts) (state : ControllerState) (given : List NodeParts) (known : List GivenNode) (row : ControllerRow) → AreRisingRows kept.rows → IsKeptOf kept state → AreGiven given known → IsAmong row kept.rows
    → row_from given row ≡ recovered_row state known (volume_of_row row)
row-told kept state given known row rising is are among =
    ap (row_with (volume_of_row row)) (sym (ap (map (entry_of known)) own ∙ each))
  where
    own : holdings_of row.id state ≡ holdings_in_row row
    own = sym (is.shows.holdings row.id) ∙ ap holdings_in (found-rising (λ (r : ControllerRow). r.id) kept.rows row (two-rise kept.rows rising) among)

    each : map (entry_of known) (holdings_in_row row) ≡ map (entry_from given row.id) row.holdings.items
    each = map-twice (entry_of known) (volume_holding row.id) (entry_from given row.id) row.holdings.items (λ held. sym (entry-told given known row.id held are))

-- two functions that agree on what is among a list
map-alike : {X Y : Type 0} (f g : X → Y) (xs : List X) → ((x : X) → IsAmong x xs → f x ≡ g x) → map f xs ≡ map g xs
map-alike f g [] same = refl
map-alike {X} {Y} f g (x ∷ xs) same = ap (λ (y : Y). y ∷ map f xs) (same x (inl refl)) ∙ ap (λ (l : List Y). g x ∷ l) (map-alike f g xs (λ y among. same y (inr among)))

-- all rows
pub rows-told : (kept : controller.RecordParts) (state : ControllerState) (given : List NodeParts) (known : List GivenNode) → AreRisingRows kept.rows → IsKeptOf kept state → AreGiven given known
    → map (row_from given) (filter (λ (row : ControllerRow). row.live) kept.rows) ≡ recovered_rows state known
rows-told kept state given known rising is are =
    map-alike (row_from given) (λ (row : ControllerRow). recovered_row state known (volume_of_row row)) live
    (λ row among. row-told kept state given known row rising is are (among-filter (λ (r : ControllerRow). r.live) kept.rows row among))
    ∙ sym (map-twice (recovered_row state known) volume_of_row (λ (row : ControllerRow). recovered_row state known (volume_of_row row)) live (λ row. refl))
    ∙ ap (map (recovered_row state known)) (sym (filter-of_map (λ (volume : Volume). volume.is_live) volume_of_row kept.rows))
    ∙ ap (λ (volumes : List Volume). map (recovered_row state known) (filter (λ (volume : Volume). volume.is_live) volumes)) is.shows.volumes
  where
    live : List ControllerRow
    live = filter (λ (row : ControllerRow). row.live) kept.rows
