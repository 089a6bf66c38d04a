use Rattle.std.proofs.Common.{◌≡◌, ◌-◌, map}
use Rattle.csi_orchestrator.specs.Public.Shown.{node_entry_shown}
use Rattle.csi_records.specs.Private.Reading.{read_items}
use Rattle.csi_records.specs.Private.OrchestratorReading.{read_node_entry}
use Rattle.csi_records.proofs.ReadingLists.{with_front}
use Rattle.csi_records.proofs.entries.node_entries.Given as goal

-- what was read so far, with the entries still to be read, is what reading gives
abbrev pub invariant-loop : goal.invariant-loop
invariant-loop l =
    with_front (map node_entry_shown l.list.items) (read_items (read_node_entry l.version) (l.count - l.counter) l.fields.bytes.now) ≡ read_items (read_node_entry l.version) l.count l.initial.fields.bytes.now
