use Rattle.std.proofs.Common.{take}
use Rattle.std.specs.List.{flat_map, AllByRecursion}
use Rattle.csi_types.specs.Public.Limits.{IsCapability}
use Rattle.csi_frames.specs.Private.Puts.{Puts}
use Rattle.csi_frames.specs.Public.Spelling.{capability}
use Rattle.csi_frames.proofs.writing.put_capabilities.Given as goal

abbrev pub invariant-loop-one : goal.invariant-loop-one
invariant-loop-one l = Puts l.initial.out l.out (flat_map capability (take l.one-index l.from)) (AllByRecursion IsCapability (take l.one-index l.from))
