-- The first stores were read, and the others are as they were.
use Rattle.std.proofs.Common.{map}
use Rattle.csi_plugins.specs.Private.Recovering.{changes_of}
use Rattle.csi_plugins.proofs.GivenNodes.{HaveReadSome}
use Rattle.csi_plugins.proofs.given.nodes_in.Given as goal

abbrev pub invariant-loop-index : goal.invariant-loop-index
invariant-loop-index g l = HaveReadSome g.K.Keep.store l.fn.keeps l.keeps l.index l.given.kept.items (map changes_of l.given.renewals.items)
