-- The greatest of all is the greater of the greatest so far and of that of the rest.
use Rattle.std.proofs.Common.{◌≡◌, drop, max}
use Rattle.csi_controller.specs.Public.WithoutSession.{latest_session}
use Rattle.csi_controller.proofs.record.latest_session.Given as goal

abbrev pub invariant-loop-row : goal.invariant-loop-row
invariant-loop-row l = max l.session (latest_session (drop l.row-index l.rows)) ≡ latest_session l.rows
