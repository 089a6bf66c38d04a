use Rattle.std.proofs.Common.{rules}
use Rattle.csi_orchestrator.proofs.state.known_at.Goals as goal

pub returns-in-Some-node_entry_at : goal.returns-in-Some-node_entry_at
returns-in-Some-node_entry_at c = search rules
