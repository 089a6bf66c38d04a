-- Those of the first rows were added.
use Rattle.csi_orchestrator.proofs.Words.{◌≡◌, take, map, row_shown, noted_in}
use Rattle.csi_orchestrator.proofs.listing.things_by_rows.Given as goal

abbrev pub invariant-loop-row : goal.invariant-loop-row
invariant-loop-row l = l.things.items ≡ noted_in (map row_shown (take l.row-index l.rows))
