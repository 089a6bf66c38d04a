-- The nodes of the entries before this one are added.
use Rattle.std.proofs.Common.{◌≡◌, ◌++◌, ℕ, List, map, take}
use Rattle.csi_orchestrator.specs.Public.Shown.{node_entry_shown}
use Rattle.csi_reports.specs.Public.Recoveries.{once, lost_of_entries}
use Rattle.csi_reports.proofs.recoveries.add_lost.Given as goal

abbrev pub invariant-loop-entry : goal.invariant-loop-entry
invariant-loop-entry l =
    (seen : List (List ℕ)) → l.fn.lost.items ≡ once seen → l.lost.items ≡ once (seen ++ lost_of_entries (map (λ kept. kept.id) l.given) (map node_entry_shown (take l.entry-index l.entries)))
