-- This entry is so.
use Rattle.csi_orchestrator.proofs.Words.{sym, uses_as_second_writer, is_so_elsewhere, node_entry_shown}
use Rattle.csi_orchestrator.proofs.EntriesShown.{one-here}
use Rattle.csi_orchestrator.proofs.sharing.is_written_elsewhere.Goals as goal

pub returns-then-writes_beside : goal.returns-then-writes_beside
returns-then-writes_beside c = sym (one-here node_entry_shown (is_so_elsewhere (uses_as_second_writer c.args.usage.now) c.args.usage.now.node) c.args.entries.now c.loop-entry.entry-index c.entry-item.result c.loop-entry-test.true c.entry-item.is (cc))
