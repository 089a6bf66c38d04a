use Rattle.std.proofs.Common.{◌≡◌, ◌++◌, map, take}
use Rattle.csi_stores.specs.Public.Part.{part_change, take_all}
use Rattle.csi_records.proofs.removals.push_removals.Given as goal

-- the rows of the ids so far are taken out
abbrev pub invariant-loop-id : goal.invariant-loop-id
invariant-loop-id l = map part_change l.parts.items ≡ map part_change l.initial.parts.items ++ take_all (take l.id-index l.ids)
