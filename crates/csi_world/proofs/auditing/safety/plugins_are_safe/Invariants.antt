-- So at the first nodes.
use Rattle.csi_world.proofs.Words.{take, AllByRecursion, IsPublishing}
use Rattle.csi_world.proofs.auditing.safety.plugins_are_safe.Given as goal

abbrev pub invariant-loop-node : goal.invariant-loop-node
invariant-loop-node l = AllByRecursion IsPublishing (take l.node-index l.nodes)
