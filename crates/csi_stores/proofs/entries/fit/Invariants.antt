use Rattle.std.proofs.Common.{◌≡◌, ◌+◌, take}
use Rattle.csi_stores.specs.Public.Content.{size_of}
use Rattle.csi_stores.specs.Public.Memory.{all_stored}
use Rattle.csi_stores.proofs.entries.fit.Given as goal

-- what the entries so far take, and what is left, are the limit
abbrev pub invariant-loop-entry : goal.invariant-loop-entry
invariant-loop-entry l = size_of (all_stored (take l.entry-index l.entries)) + l.left ≡ l.limit
