-- By where it stands.
use Rattle.csi_orchestrator.proofs.Words.{sym, same_text, NodeEntryShown, node_entry_shown}
use Rattle.csi_orchestrator.proofs.ChangedEntries.{find-place, find-none_placed}
use Rattle.csi_orchestrator.proofs.state.node_entry_at.Goals as goal

pub returns-in-Some : goal.returns-in-Some
returns-in-Some c = sym (find-place node_entry_shown (λ (entry : NodeEntryShown). same_text entry.node c.args.node.now) c.args.row.now.node_entries.items c.in-Some.index c.index.result.now (cc) (cc))

pub returns-in-None : goal.returns-in-None
returns-in-None c = sym (find-none_placed node_entry_shown (λ (entry : NodeEntryShown). same_text entry.node c.args.node.now) c.args.row.now.node_entries.items (cc))
