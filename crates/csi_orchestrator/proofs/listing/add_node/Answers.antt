-- Where nothing is noted, no target is.
use Rattle.csi_orchestrator.proofs.Words.{◌≡◌, ◌∙◌, ◌++◌, [], ap, flat_map, Attached, Staged, node_entry_shown, noted}
use Rattle.csi_orchestrator.proofs.Words.{noted_of_target}
use Rattle.csi_orchestrator.proofs.RowsWithoutNotes.{no-flat, no-right}
use Rattle.csi_orchestrator.proofs.listing.add_node.Goals as goal

pub returns-in_err-add-3-clause-empty : goal.returns-in_err-add-3-clause-empty
returns-in_err-add-3-clause-empty c = λ none.
    let note = noted_of_target c.args.name.now c.args.entry.now.node in
    let name = c.args.name.now in
    let entry = node_entry_shown c.args.entry.now in
    let target_entry = c.target_entry-item.result in
    let at_targets = flat_map note entry.target_entries in
    let own_things = noted (Attached name entry.node) entry.attached ++ noted (Staged name entry.node) entry.staged in
    let targets = ap (flat_map note) c.as_slice-target_entries.ensures.value ∙ no-right own_things at_targets none in
    let own : note target_entry ≡ []
    = ap note c.target_entry-item.is ∙ no-flat note c.as_slice-target_entries.result.now c.loop-target_entry.target_entry-index target_entry targets c.loop-target_entry-test.true in
    let ok = c.in_err-add-3.ensures.empty own in
    cc
