-- The copies show what the rows show.
use Rattle.std.proofs.Common.{List, map, sym, subst}
use Rattle.csi_controller.specs.declared.row.ControllerRow.{ControllerRow}
use Rattle.csi_controller.specs.Model.Core.{ControllerParts, Shows}
use Rattle.csi_controller.specs.Public.Names.{by_text}
use Rattle.csi_controller.specs.Public.Core.{AreSoundRows}
use Rattle.csi_controller.specs.Public.Views.{AreSameRows, RecordParts}
use Rattle.csi_controller.proofs.Copies.{shown-copies, sound-copies, current-copies}
use Rattle.csi_controller.proofs.RecordRules.{current-kept, sound-kept}
use Rattle.csi_controller.proofs.controller.Controller.record.Goals as goal

pub copied-requires : goal.copied-requires
copied-requires c =
    let kept = c.self.inside.rows in
    subst (AreSoundRows kept.table.next_id) (sym c.as_slice.ensures.value)
    (sound-kept kept.table.config.nodes (map by_text kept.table.ids.entries) kept.table.counts kept.table.next_id kept.session kept.rows.items kept.empty c.self.invariant)

pub new-requires-clause-sound : goal.new-requires-clause-sound
new-requires-clause-sound c =
    let kept = c.self.inside.rows in
    sound-copies kept.table.next_id kept.rows.items c.in_ok-catalog.catalog.rows.items (subst (λ (l : List ControllerRow). AreSameRows l c.in_ok-catalog.catalog.rows.items) c.as_slice.ensures.value c.in_ok-catalog.ensures.rows)
    (sound-kept kept.table.config.nodes (map by_text kept.table.ids.entries) kept.table.counts kept.table.next_id kept.session kept.rows.items kept.empty c.self.invariant)

pub new-requires-clause-current : goal.new-requires-clause-current
new-requires-clause-current c =
    let kept = c.self.inside.rows in
    current-copies kept.session kept.rows.items c.in_ok-catalog.catalog.rows.items (subst (λ (l : List ControllerRow). AreSameRows l c.in_ok-catalog.catalog.rows.items) c.as_slice.ensures.value c.in_ok-catalog.ensures.rows)
    (current-kept kept.table.config.nodes (map by_text kept.table.ids.entries) kept.table.counts kept.table.next_id kept.session kept.rows.items kept.empty c.self.invariant)

pub returns : goal.returns
returns c = λ state shown.
    let kept = c.self.inside.rows in
    let copies = c.in_ok-catalog.catalog.rows.items in
    subst (λ (k : RecordParts). Shows (record { config = c.args.self.now.config; next_id = k.next_id; session = k.session; rows = k.rows }) state) (sym c.new.ensures)
    (subst (λ (k : ControllerParts). Shows (record { config = k.config; next_id = kept.table.next_id; session = kept.session; rows = copies }) state) c.self.view_is
    (shown-copies kept.table.config kept.table.next_id kept.session kept.rows.items copies state (subst (λ (l : List ControllerRow). AreSameRows l copies) c.as_slice.ensures.value c.in_ok-catalog.ensures.rows)
    (subst (λ (k : ControllerParts). Shows k state) (sym c.self.view_is) shown)))
