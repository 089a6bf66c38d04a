-- What is known at the node, and at the first targets, was added.
use Rattle.csi_orchestrator.proofs.Words.{◌≡◌, ◌++◌, take, flat_map, Attached, Staged, noted, noted_of_target}
use Rattle.csi_orchestrator.proofs.listing.add_node.Given as goal

abbrev pub invariant-loop-target_entry : goal.invariant-loop-target_entry
invariant-loop-target_entry l =
    l.things.items
    ≡ l.fn.things.items ++ noted (Attached l.name l.entry.node) l.entry.attached ++ noted (Staged l.name l.entry.node) l.entry.staged ++ flat_map (noted_of_target l.name l.entry.node) (take l.target_entry-index l.entry.target_entries.items)
