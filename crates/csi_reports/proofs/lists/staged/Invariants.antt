-- What the nodes before this one have is on the list.
use Rattle.std.proofs.Common.{◌≡◌, take}
use Rattle.std.specs.List.{flat_map}
use Rattle.csi_reports.specs.Public.Listed.{staged_on}
use Rattle.csi_reports.proofs.lists.staged.Given as goal

abbrev pub invariant-loop-node : goal.invariant-loop-node
invariant-loop-node l = l.list.items ≡ flat_map staged_on (take l.node-index l.nodes)
