-- The greatest of all is the greater of the greatest so far and of that of the rest.
use Rattle.std.proofs.Common.{◌≡◌, drop, max}
use Rattle.csi_node.specs.Public.WithoutSession.{latest_session}
use Rattle.csi_node.proofs.judging.latest_session.Given as goal

-- with the greatest of the rows still to be looked at it is the greatest of all
abbrev pub invariant-loop-row : goal.invariant-loop-row
invariant-loop-row l = max l.latest (latest_session (drop l.row-index l.rows)) ≡ latest_session l.rows
