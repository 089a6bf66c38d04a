use Rattle.std.proofs.Common.{◌≡◌, ◌++◌, map, take}
use Rattle.std.specs.List.{AllByRecursion}
use Rattle.csi_stores.specs.Public.Part.{part_change, put_all}
use Rattle.csi_records.specs.Public.Spelling.{present}
use Rattle.csi_records.proofs.plugin_rows.parts_with.Given as goal

-- the parts of the rows so far are there, and the rows are within their limits
abbrev pub invariant-loop-row : goal.invariant-loop-row
invariant-loop-row g l =
    record {
      so_far : map part_change l.parts.items ≡ map part_change l.initial.parts.items ++ put_all (map (g.T.Row.row_part present) (map g.T.Row.shown (take l.row-index l.rows)));
      each : AllByRecursion (g.T.Row.is_row present) (map g.T.Row.shown (take l.row-index l.rows));
    }
