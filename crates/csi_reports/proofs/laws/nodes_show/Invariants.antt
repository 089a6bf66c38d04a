-- The nodes before this one do.
use Rattle.std.proofs.Common.{take}
use Rattle.std.specs.List.{AllByRecursion}
use Rattle.csi_reports.specs.Private.Laws.{ShowsAState}
use Rattle.csi_reports.proofs.laws.nodes_show.Given as goal

abbrev pub invariant-loop-node : goal.invariant-loop-node
invariant-loop-node l = AllByRecursion ShowsAState (take l.node-index l.nodes)
