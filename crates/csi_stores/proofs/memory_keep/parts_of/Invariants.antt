use Rattle.std.proofs.Common.{◌≡◌, take, map}
use Rattle.csi_stores.specs.Public.Part.{put_all, part_change}
use Rattle.csi_stores.specs.Public.Memory.{all_stored}
use Rattle.csi_stores.proofs.memory_keep.parts_of.Given as goal

-- the parts so far put in what the entries so far have
abbrev pub invariant-loop-entry : goal.invariant-loop-entry
invariant-loop-entry l = map part_change l.parts.items ≡ put_all (all_stored (take l.entry-index l.entries))
