use Rattle.std.proofs.Common.{take}
use Rattle.std.specs.List.{AllByRecursion}
use Rattle.csi_types.specs.Public.Limits.{IsCapability}
use Rattle.csi_embedded.proofs.limits.list_law.Given as goal

-- those so far are within their limits
abbrev pub invariant-loop-one : goal.invariant-loop-one
invariant-loop-one l = AllByRecursion IsCapability (take l.one-index l.items)
