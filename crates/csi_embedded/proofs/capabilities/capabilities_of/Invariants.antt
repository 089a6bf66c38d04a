use Rattle.std.proofs.Common.{◌≡◌, length}
use Rattle.csi_embedded.proofs.SpelledCapabilities.{IsSoFar}
use Rattle.csi_embedded.proofs.capabilities.capabilities_of.Given as goal

-- so many were read, and the rest is left
abbrev pub invariant-loop : goal.invariant-loop
invariant-loop l =
    record {
      many : length l.list.items ≡ l.counter;
      so_far : IsSoFar l.bytes l.list.items l.fields.bytes.now;
    }
