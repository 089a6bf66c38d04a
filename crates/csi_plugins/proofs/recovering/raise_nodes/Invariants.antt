-- The first stores got their changes, and the others are as they were.
use Rattle.std.proofs.Common.{◌≡◌, length, map}
use Rattle.csi_plugins.specs.Private.Recovering.{changes_of}
use Rattle.csi_plugins.proofs.CarryingOut.{HaveChanged}
use Rattle.csi_plugins.proofs.recovering.raise_nodes.Given as goal

abbrev pub invariant-loop-index : goal.invariant-loop-index
invariant-loop-index g l = (many : length (map changes_of l.changes) ≡ length l.fn.nodes) → HaveChanged g.K.Keep.store l.fn.nodes (map changes_of l.changes) many l.nodes l.index
