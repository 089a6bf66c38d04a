use Rattle.std.proofs.Common.{◌≡◌, ◌++◌, map, take}
use Rattle.std.specs.List.{flat_map}
use Rattle.csi_stores.specs.Public.Part.{stored_in}
use Rattle.csi_records.specs.Public.Spelling.{part_bytes}
use Rattle.csi_records.proofs.writing.bytes_of.Given as goal

-- the parts so far were written
abbrev pub invariant-loop-part : goal.invariant-loop-part
invariant-loop-part l = l.out.items ≡ l.initial.out.items ++ flat_map part_bytes (map stored_in (take l.part-index l.parts))
