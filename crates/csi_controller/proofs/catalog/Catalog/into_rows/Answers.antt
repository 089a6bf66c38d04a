-- The rows of a record are kept, with their names and their counts.
use Rattle.std.proofs.Common.{ℕ, List, map, sym, subst}
use Rattle.csi_controller.specs.declared.table.ControllerTable.{ControllerTable}
use Rattle.csi_controller.specs.Public.Counts.{AreCounted}
use Rattle.csi_controller.specs.Public.Names.{by_text}
use Rattle.csi_controller.specs.Public.OneRow.{row_shown}
use Rattle.csi_controller.specs.Public.Plan.{AreControllerRows}
use Rattle.csi_controller.specs.declared.row.ControllerRow.{ControllerRow}
use Rattle.csi_types.specs.declared.config.NodeSlots.{NodeSlots}
use Rattle.csi_controller.proofs.RecordRules.{rows-kept}
use Rattle.csi_controller.proofs.catalog.Catalog.into_rows.Goals as goal

pub returns-clause-kept : goal.returns-clause-kept
returns-clause-kept c =
    let rows = c.args.self.rows.items in
    let table : ControllerTable = record { config = c.args.config; next_id = c.args.next_id; ids = c.args.self.ids; counts = c.counted-counts.result } in
    let counted : AreCounted c.args.config.nodes (map row_shown rows) c.counted-counts.result =
    subst (λ (l : List ControllerRow). AreCounted c.args.config.nodes (map row_shown l) c.counted-counts.result) c.as_slice.ensures.value
    (subst (λ (nodes : List NodeSlots). AreCounted nodes (map row_shown c.as_slice.result.now) c.counted-counts.result) c.nodes.ensures c.counted-counts.ensures) in
    subst (λ (t : ControllerTable). AreControllerRows t c.new.result.session c.new.result.rows.items c.new.result.empty) (sym c.new.ensures.table)
    (subst (λ (session : ℕ). AreControllerRows table session c.new.result.rows.items c.new.result.empty) (sym c.new.ensures.session)
    (subst (λ v. AreControllerRows table c.args.session v.items c.new.result.empty) (sym c.new.ensures.rows)
    (rows-kept table.config.nodes (map by_text table.ids.entries) table.counts table.next_id c.args.session rows c.new.result.empty c.requires.sound c.requires.current c.requires.indexed counted c.new.ensures.empty c.ranges.next_id.fits)))
