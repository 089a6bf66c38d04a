-- Those of the first entries were added.
use Rattle.std.proofs.Common.{◌≡◌, take, map}
use Rattle.csi_orchestrator.specs.Public.Shown.{node_entry_shown}
use Rattle.csi_recovery.specs.Public.Rebuilding.{kept_holdings}
use Rattle.csi_recovery.proofs.rebuilding.holdings.Given as goal

abbrev pub invariant-loop-entry : goal.invariant-loop-entry
invariant-loop-entry l = l.made.items ≡ kept_holdings (map node_entry_shown (take l.entry-index l.entries))
