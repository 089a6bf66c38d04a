-- This entry is so.
use Rattle.csi_orchestrator.proofs.Words.{sym, is_for_one_node, is_so_elsewhere, node_entry_shown}
use Rattle.csi_orchestrator.proofs.EntriesShown.{one-here}
use Rattle.csi_orchestrator.proofs.sharing.is_held_elsewhere.Goals as goal

pub returns-then-excludes : goal.returns-then-excludes
returns-then-excludes c = sym (one-here node_entry_shown (is_so_elsewhere (is_for_one_node c.args.usage.now) c.args.usage.now.node) c.args.entries.now c.loop-entry.entry-index c.entry-item.result c.loop-entry-test.true c.entry-item.is (cc))
