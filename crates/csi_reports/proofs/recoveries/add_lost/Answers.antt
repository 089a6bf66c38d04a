-- One entry more.
use Rattle.std.proofs.Common.{◌∙◌, ◌++◌, ◌∷◌, [], ap, map, take, sym}
use Rattle.std.proofs.lemmas.List.{append-nil}
use Rattle.csi_node.specs.Model.Record.{NodeParts}
use Rattle.csi_orchestrator.specs.declared.row.NodeEntry.{NodeEntry}
use Rattle.csi_orchestrator.specs.Public.Shown.{node_entry_shown}
use Rattle.csi_reports.specs.Public.Recoveries.{once, lost_among, lost_of_entries}
use Rattle.csi_reports.proofs.LostNodes.{entries-more}
use Rattle.csi_reports.proofs.recoveries.add_lost.Goals as goal

pub loop-entry-init : goal.loop-entry-init
loop-entry-init c = λ seen is. is ∙ ap once (sym (append-nil seen))

pub loop-entry-preserved : goal.loop-entry-preserved
loop-entry-preserved c = λ seen is.
    let ids = map (λ (kept : NodeParts). kept.id) c.args.given.now in
    let entries = c.args.entries.now in
    let i = c.loop-entry.entry-index in
    c.in_ok-add_node.ensures (seen ++ lost_of_entries ids (map node_entry_shown (take i entries))) (c.loop-entry.invariant seen is)
    ∙ ap once (ap (λ (e : NodeEntry). (seen ++ lost_of_entries ids (map node_entry_shown (take i entries))) ++ lost_among ids (e.node ∷ [])) c.entry-item.is
    ∙ entries-more node_entry_shown ids seen entries i c.entry-item.result c.loop-entry-test.true)
