-- The rows so far are of the session.
use Rattle.std.specs.Prelude.{take}
use Rattle.csi_controller.specs.Public.Core.{IsCurrent}
use Rattle.csi_controller.proofs.judging.first_not_current.Given as goal

abbrev pub invariant-loop-index : goal.invariant-loop-index
invariant-loop-index l = IsCurrent l.session (take l.index l.rows)
