-- What the table answers to a call is told by the row that the call has.
use Rattle.std.proofs.Common.{◌≡◌, ℕ, Bool, true, cond, not, List, map, refl, sym, ◌∙◌, ap}
use Rattle.std.specs.Prelude.{Option, Some, None, find, option_map, ◌&&◌, ◌==◌, nat_le, codes}
use Rattle.std.specs.List.{list_any}
use Rattle.std.proofs.lemmas.Bool.{eqb-true}
use Rattle.csi_types.proofs.Filters.{filter-all, filter-of_map}
use Rattle.csi_types.proofs.Places.{FirstAt-find, FirstAt-only, find-and_first}
use Rattle.csi_types.proofs.Searches.{find-and_filter, find-and_none, find-of_map}
use Rattle.csi_types.specs.Public.Places.{IsAt}
use Rattle.csi_types.specs.declared.call.Call.{Call}
use Rattle.csi_types.specs.declared.call.Call.TheVariants as calls
use Rattle.csi_types.specs.declared.config.NodeSlots.{NodeSlots}
use Rattle.csi_types.specs.declared.holding.Holding.{Holding}
use Rattle.csi_types.specs.declared.status.Status.TheVariants.{InvalidArgument, NotFound}
use Rattle.csi_types.specs.Model.Config.{Config, has_node}
use Rattle.csi_types.specs.Model.Same.{same_text, has_capability}
use Rattle.csi_controller.specs.declared.row.NodeHolding.{NodeHolding}
use Rattle.csi_controller.specs.Model.State.{Volume, ControllerState, is_row_for, volume_named, live_volume, holdings_of, holding_at}
use Rattle.csi_controller.specs.Model.Table.{controller_row, lifecycle_row, argument_fault, unless, create_named, delete, publish, publish_held, is_full, unpublish, refused}
use Rattle.csi_controller.specs.Public.Core.{volume_holding}
use Rattle.csi_controller.specs.Public.Counts.{AreCounted}
use Rattle.csi_controller.specs.Private.Counts.{is_node_full}
use Rattle.csi_controller.specs.Public.OneRow.{RowShown, state_shown}
use Rattle.csi_controller.specs.Private.OneRow.{held_of_row}
use Rattle.csi_controller.specs.Public.Plan.{is_full_by, told_at, told_in}
use Rattle.csi_controller.specs.Private.Plan.{row_outcome}
use Rattle.csi_controller.proofs.Holdings.{count-rows, held_in, self}
use Rattle.csi_controller.proofs.ShownRows.{ControllerRows, AreRowsSound, RowsShowAll, one-id, volume_in}
use Rattle.csi_controller.proofs.Counts.{full-told}

-- what the searches of the state give at a volume that has this row
pub record SeesRow (state : ControllerState) (row : RowShown) : Type 0 where
  pub named : (name : List ℕ) → same_text row.volume.name name ≡ true → volume_named name state ≡ Some row.volume
  pub live : live_volume row.volume.id state ≡ cond row.volume.is_live (Some row.volume) None
  pub held : holdings_of row.volume.id state ≡ map (volume_holding row.volume.id) row.items

-- how a volume is held at a node is told by its row
pub held_at-seen : (state : ControllerState) (row : RowShown) (node : List ℕ) → SeesRow state row → holding_at row.volume.id node state ≡ option_map (volume_holding row.volume.id) (held_of_row row node)
held_at-seen state row node sees =
    find-and_filter (λ (h : Holding). h.volume == row.volume.id) (λ (h : Holding). same_text h.node node) state.holdings
    ∙ ap (find (λ (h : Holding). same_text h.node node)) sees.held
    ∙ find-of_map (λ (h : Holding). same_text h.node node) (volume_holding row.volume.id) row.items

-- the state of the row's volume alone
pub alone : (row : RowShown) → SeesRow (state_shown row) row
alone row = record {
  named = λ name same. ap (λ (b : Bool). cond b (Some row.volume) None) same;
  live = ap (λ (b : Bool). cond (b && row.volume.is_live) (Some row.volume) None) (self row.volume.id);
  held = filter-of_map (λ (h : Holding). h.volume == row.volume.id) (volume_holding row.volume.id) row.items
      ∙ ap (map (volume_holding row.volume.id)) (filter-all (λ (held : NodeHolding). row.volume.id == row.volume.id) row.items (λ held. self row.volume.id));
}

-- the configuration, for a volume that is made already
abbrev nodes_alone : Config → Config
nodes_alone config = record { greatest = 0; nodes = config.nodes }

-- two states that have a volume held alike answer ControllerPublishVolume alike
publish-alike : (config : Config) (full : Bool) (a b : ControllerState) (holding : Holding) (o : Option Volume) → holdings_of holding.volume a ≡ holdings_of holding.volume b
    → holding_at holding.volume holding.node a ≡ holding_at holding.volume holding.node b → publish config full a holding o ≡ publish (nodes_alone config) full b holding o
publish-alike config full a b holding None held at = refl
publish-alike config full a b holding (Some volume) held at =
    λ i. cond (not (has_node holding.node config.nodes)) (refused NotFound (codes "node"))
    (cond (not (has_capability volume.capabilities holding.capability)) (refused InvalidArgument (codes "capability")) (publish_held full (held i) holding (at i)))

-- in two states that see its row a volume's call is answered alike, where the same nodes are full
pub alike : (config : Config) (f g : List ℕ → Bool) (a b : ControllerState) (row : RowShown) (call : Call) → is_row_for call row.volume ≡ true → SeesRow a row → SeesRow b row → ((node : List ℕ) → f node ≡ g node)
    → lifecycle_row config f a call ≡ lifecycle_row (nodes_alone config) g b call
alike config f g a b row (calls.CreateVolume name required limit capabilities) own in_a in_b full =
    ap (λ (o : Option Volume). unless (argument_fault required limit capabilities) (create_named config a name required limit capabilities o)) (in_a.named name own)
    ∙ ap (λ (o : Option Volume). unless (argument_fault required limit capabilities) (create_named (nodes_alone config) b name required limit capabilities o)) (sym (in_b.named name own))
alike config f g a b row (calls.DeleteVolume id) own in_a in_b full =
    let is : id ≡ row.volume.id = sym (eqb-true row.volume.id id own) in
    let held = in_a.held ∙ sym in_b.held in
    let live = in_a.live ∙ sym in_b.live in
    rw is (λ i. delete row.volume.id (held i) (live i))
alike config f g a b row (calls.ControllerPublishVolume id node capability readonly) own in_a in_b full =
    let is : id ≡ row.volume.id = sym (eqb-true row.volume.id id own) in
    let holding : Holding = record { volume = row.volume.id; node = node; capability = capability; readonly = readonly } in
    let live = in_a.live ∙ sym in_b.live in
    rw is ((λ i. publish config (full node i) a holding (live i))
    ∙ publish-alike config (g node) a b holding (live_volume row.volume.id b) (in_a.held ∙ sym in_b.held) (held_at-seen a row node in_a ∙ sym (held_at-seen b row node in_b)))
alike config f g a b row (calls.ControllerUnpublishVolume id node) own in_a in_b full =
    let is : id ≡ row.volume.id = sym (eqb-true row.volume.id id own) in
    rw is (ap (unpublish row.volume.id node) (held_at-seen a row node in_a ∙ sym (held_at-seen b row node in_b)))
alike config f g a b row call own in_a in_b full = refl

-- a row at a place, as the state has it
pub sees-row : (old : ControllerRows) (state : ControllerState) (place : ℕ) (row : RowShown) → AreRowsSound old → RowsShowAll old state → IsAt old.rows place row → SeesRow state row
sees-row old state place row sound shows at =
    let one = one-id old sound row.volume.id in
    let first = FirstAt-only (λ (r : RowShown). r.volume.id == row.volume.id) old.rows place row at (self row.volume.id) one in
    record {
      named = λ name same.
          ap (find (λ (v : Volume). same_text v.name name)) (sym shows.volumes) ∙ find-of_map (λ (v : Volume). same_text v.name name) volume_in old.rows
          ∙ ap (option_map volume_in) (FirstAt-find (λ (r : RowShown). same_text r.volume.name name) old.rows place row (FirstAt-only (λ (r : RowShown). same_text r.volume.name name) old.rows place row at same (sound.unique name)));
      live = ap (find (λ (volume : Volume). (volume.id == row.volume.id) && volume.is_live)) (sym shows.volumes)
          ∙ find-and_first volume_in (λ (volume : Volume). volume.id == row.volume.id) (λ (volume : Volume). volume.is_live) old.rows place row first one;
      held = sym (shows.holdings row.volume.id) ∙ ap held_in (FirstAt-find (λ (r : RowShown). r.volume.id == row.volume.id) old.rows place row first);
    }

-- a row is told the same by any that says of the nodes which are full
pub told-alike : (config : Config) (f g : List ℕ → Bool) (row : RowShown) (call : Call) → is_row_for call row.volume ≡ true → ((node : List ℕ) → f node ≡ g node)
    → lifecycle_row config f (state_shown row) call ≡ lifecycle_row (nodes_alone config) g (state_shown row) call
told-alike config f g row call own full = alike config f g (state_shown row) (state_shown row) row call own (alone row) (alone row) full

-- by the counts of the nodes
pub line-counted : (config : Config) (rows : List RowShown) (counts : List ℕ) (row : RowShown) (call : Call) → is_row_for call row.volume ≡ true → AreCounted config.nodes rows counts
    → told_in (row_outcome config.nodes counts row call) ≡ told_at config rows row call
line-counted config rows counts row call own counted =
    ap told_in (sym (told-alike config (is_full_by config.nodes rows) (is_node_full config.nodes counts) row call own (λ node. full-told config.nodes rows counts node counted)))

-- the table's answer to a call is that of its row
pub line-told : (config : Config) (old : ControllerRows) (state : ControllerState) (place : ℕ) (row : RowShown) (call : Call) → AreRowsSound old → RowsShowAll old state → IsAt old.rows place row → is_row_for call row.volume ≡ true
    → controller_row config state call ≡ lifecycle_row config (is_full_by config.nodes old.rows) (state_shown row) call
line-told config old state place row call sound shows at own =
    alike config (is_full config state) (is_full_by config.nodes old.rows) state (state_shown row) row call own (sees-row old state place row sound shows at) (alone row)
    (λ node. ap (λ k. list_any (λ (entry : NodeSlots). same_text entry.id node && nat_le entry.slots k) config.nodes) (count-rows old.own node old.rows state.holdings sound.each (one-id old sound) shows.holdings))
    ∙ sym (told-alike config (is_full_by config.nodes old.rows) (is_full_by config.nodes old.rows) row call own (λ node. refl))

-- an id that no row has
pub live-nowhere : (old : ControllerRows) (state : ControllerState) (id : ℕ) → RowsShowAll old state → find (λ (r : RowShown). r.volume.id == id) old.rows ≡ None → live_volume id state ≡ None
live-nowhere old state id shows none =
    ap (find (λ (volume : Volume). (volume.id == id) && volume.is_live)) (sym shows.volumes)
    ∙ find-and_none volume_in (λ (volume : Volume). volume.id == id) (λ (volume : Volume). volume.is_live) old.rows none

-- an id that no row has is held at no node
pub held-nowhere : (old : ControllerRows) (state : ControllerState) (id : ℕ) (node : List ℕ) → RowsShowAll old state → find (λ (r : RowShown). r.volume.id == id) old.rows ≡ None → holding_at id node state ≡ None
held-nowhere old state id node shows none =
    find-and_filter (λ (h : Holding). h.volume == id) (λ (h : Holding). same_text h.node node) state.holdings
    ∙ ap (find (λ (h : Holding). same_text h.node node)) (sym (shows.holdings id) ∙ ap held_in none)
