-- This entry is so.
use Rattle.csi_orchestrator.proofs.Words.{sym, not, NodeEntryShown, node_entry_shown, is_no}
use Rattle.csi_orchestrator.proofs.EntriesShown.{one-here}
use Rattle.csi_orchestrator.proofs.sharing.is_attached_somewhere.Goals as goal

pub returns-then-not-is_no : goal.returns-then-not-is_no
returns-then-not-is_no c = sym (one-here node_entry_shown (λ (entry : NodeEntryShown). not (is_no entry.attached)) c.args.entries.now c.loop-entry.entry-index c.entry-item.result c.loop-entry-test.true c.entry-item.is (cc))
