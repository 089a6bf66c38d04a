-- Those of the first targets were added.
use Rattle.std.proofs.Common.{◌≡◌, take, map}
use Rattle.csi_recovery.specs.Private.Walks.{published_there}
use Rattle.csi_recovery.proofs.entries.published_at.Given as goal

abbrev pub invariant-loop-there : goal.invariant-loop-there
invariant-loop-there l = l.made.items ≡ map published_there (take l.there-index l.targets)
