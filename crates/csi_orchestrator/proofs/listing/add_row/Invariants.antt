-- What is known of the volume, and at the first nodes, was added.
use Rattle.csi_orchestrator.proofs.Words.{◌≡◌, ◌++◌, take, map, flat_map, Exists, node_entry_shown, noted}
use Rattle.csi_orchestrator.proofs.Words.{noted_of_node}
use Rattle.csi_orchestrator.proofs.listing.add_row.Given as goal

abbrev pub invariant-loop-entry : goal.invariant-loop-entry
invariant-loop-entry l =
    l.things.items ≡ l.fn.things.items ++ noted (Exists l.row.name) l.row.exists ++ flat_map (noted_of_node l.row.name) (map node_entry_shown (take l.entry-index l.row.node_entries.items))
