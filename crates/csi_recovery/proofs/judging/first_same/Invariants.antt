-- The first ones are of different nodes.
use Rattle.std.proofs.Common.{List, take}
use Rattle.csi_recovery.specs.Public.Recovered.{GivenNode}
use Rattle.csi_recovery.specs.Public.Judged.{AreGiven, HaveDistinctNodes}
use Rattle.csi_recovery.proofs.judging.first_same.Given as goal

abbrev pub invariant-loop-index : goal.invariant-loop-index
invariant-loop-index l = (known : List GivenNode) → AreGiven l.given known → HaveDistinctNodes (take l.index known)
