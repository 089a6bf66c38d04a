-- Those of the first nodes that are given are there, their sessions raised.
use Rattle.csi_world.specs.Private.Recovering.{IsRaised}
use Rattle.csi_world.specs.Public.Given.{AreThose}
use Rattle.csi_world.proofs.recovering.raised_nodes.Given as goal

abbrev pub invariant-loop-node : goal.invariant-loop-node
invariant-loop-node l = AreThose (IsRaised l.session) l.given l.yielded l.kept.items
