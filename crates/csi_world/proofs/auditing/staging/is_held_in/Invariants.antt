-- One of the holdings that are left is so exactly where one of all is.
use Rattle.csi_world.proofs.Words.{◌≡◌, drop, list_any, is_held_as}
use Rattle.csi_world.proofs.auditing.staging.is_held_in.Given as goal

abbrev pub invariant-loop-held : goal.invariant-loop-held
invariant-loop-held l = list_any (is_held_as l.node l.capability) (drop l.held-index l.holdings) ≡ list_any (is_held_as l.node l.capability) l.holdings
