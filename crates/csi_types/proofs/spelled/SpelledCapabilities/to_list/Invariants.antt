-- Those that were copied and those that are left are all of them.
use Rattle.std.proofs.Common.{◌≡◌, ◌+◌, ◌++◌, length}
use Rattle.csi_types.specs.Public.Listed.{listed}
use Rattle.csi_types.proofs.spelled.SpelledCapabilities.to_list.Given as goal

abbrev pub invariant-loop-rest : goal.invariant-loop-rest
invariant-loop-rest l = (l.items.items ++ listed l.rest ≡ listed l.self) × (length l.items.items + l.rest.count ≡ l.self.count)

abbrev pub decreases-loop-rest : goal.decreases-loop-rest
decreases-loop-rest l = l.rest.count
