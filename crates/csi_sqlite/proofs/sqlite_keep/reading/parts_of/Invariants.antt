use Rattle.std.proofs.Common.{map, take}
use Rattle.csi_stores.specs.Public.Part.{part_change}
use Rattle.csi_sqlite.specs.Private.Loading.{AreRowsOfParts}
use Rattle.csi_sqlite.proofs.sqlite_keep.reading.parts_of.Given as goal

-- the rows so far were read as parts
abbrev pub invariant-loop-place : goal.invariant-loop-place
invariant-loop-place l = AreRowsOfParts (take l.place l.rows) (map part_change l.parts.items)
