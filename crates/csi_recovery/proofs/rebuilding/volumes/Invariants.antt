-- Those of the first rows were added.
use Rattle.std.proofs.Common.{◌≡◌, take, map}
use Rattle.std.specs.Prelude.{filter_map}
use Rattle.csi_orchestrator.specs.Public.Shown.{row_shown}
use Rattle.csi_recovery.specs.Public.Rebuilding.{made_shown, row_made}
use Rattle.csi_recovery.proofs.rebuilding.volumes.Given as goal

abbrev pub invariant-loop-row : goal.invariant-loop-row
invariant-loop-row l = map made_shown l.made.items ≡ filter_map row_made (map row_shown (take l.row-index l.rows))
