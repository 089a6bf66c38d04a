-- The greatest of all is the greater of the greatest so far and of that of the rest.
use Rattle.std.proofs.Common.{◌≡◌, drop, max}
use Rattle.csi_recovery.specs.Private.Walks.{latest_kept}
use Rattle.csi_recovery.proofs.session.latest_session.Given as goal

abbrev pub invariant-loop-kept : goal.invariant-loop-kept
invariant-loop-kept l = max l.session (latest_kept (drop l.kept-index l.given)) ≡ latest_kept l.given
