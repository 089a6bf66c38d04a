-- Where nothing is noted, no node is.
use Rattle.csi_orchestrator.proofs.Words.{◌≡◌, ◌∙◌, [], List, ap, map, flat_map, NodeEntry, Exists, noted}
use Rattle.csi_orchestrator.proofs.Words.{noted_of_node, node_entry_shown, row_shown}
use Rattle.csi_orchestrator.proofs.RowsWithoutNotes.{no-flat_shown, no-right}
use Rattle.csi_orchestrator.proofs.listing.add_row.Goals as goal

pub returns-in_err-add_node-clause-empty : goal.returns-in_err-add_node-clause-empty
returns-in_err-add_node-clause-empty c = λ none.
    let note = noted_of_node c.args.row.now.name in
    let entry = c.entry-item.result in
    let entries : flat_map note (map node_entry_shown c.as_slice-entries.result.now) ≡ []
    = ap (λ (l : List NodeEntry). flat_map note (map node_entry_shown l)) c.as_slice-entries.ensures.value ∙ no-right (noted (Exists c.args.row.now.name) c.args.row.now.exists) (flat_map note (row_shown c.args.row.now).node_entries) none in
    let own : note (node_entry_shown entry) ≡ []
    = ap (λ (p : NodeEntry). note (node_entry_shown p)) c.entry-item.is ∙ no-flat_shown note node_entry_shown c.as_slice-entries.result.now c.loop-entry.entry-index entry entries c.loop-entry-test.true in
    let ok = c.in_err-add_node.ensures.empty own in
    cc
