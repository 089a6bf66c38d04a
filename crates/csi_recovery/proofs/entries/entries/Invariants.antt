-- Those of the first holdings were added.
use Rattle.std.proofs.Common.{◌≡◌, take, map}
use Rattle.csi_orchestrator.specs.Public.Shown.{node_entry_shown}
use Rattle.csi_recovery.specs.Private.Walks.{entry_from}
use Rattle.csi_recovery.proofs.entries.entries.Given as goal

abbrev pub invariant-loop-held : goal.invariant-loop-held
invariant-loop-held l = map node_entry_shown l.made.items ≡ map (entry_from l.given l.volume.id) (take l.held-index l.volume.holdings.items)
