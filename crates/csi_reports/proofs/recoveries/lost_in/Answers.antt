-- One row more.
use Rattle.std.proofs.Common.{◌∙◌, ◌++◌, ap, map, take, List}
use Rattle.csi_node.specs.Model.Record.{NodeParts}
use Rattle.csi_orchestrator.specs.declared.row.NodeEntry.{NodeEntry}
use Rattle.csi_orchestrator.specs.declared.row.Row.{Row}
use Rattle.csi_orchestrator.specs.Public.Shown.{node_entry_shown, row_shown}
use Rattle.csi_reports.specs.Public.Recoveries.{once, lost_of_entries, lost_of_rows}
use Rattle.csi_reports.proofs.LostNodes.{rows-more}
use Rattle.csi_reports.proofs.recoveries.lost_in.Goals as goal

pub loop-row-preserved : goal.loop-row-preserved
loop-row-preserved c =
    let ids = map (λ (kept : NodeParts). kept.id) c.args.given.now in
    let rows = c.args.rows.now in
    let i = c.loop-row.row-index in
    let before = lost_of_rows ids (map row_shown (take i rows)) in
    c.in_ok-add_lost.ensures before c.loop-row.invariant
    ∙ ap once (ap (λ (es : List NodeEntry). before ++ lost_of_entries ids (map node_entry_shown es)) c.deref.ensures.value
    ∙ ap (λ (r : Row). before ++ lost_of_entries ids (row_shown r).node_entries) c.row-item.is
    ∙ rows-more row_shown ids rows i c.row-item.result c.loop-row-test.true)
