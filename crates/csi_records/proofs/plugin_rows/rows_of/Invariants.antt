use Rattle.std.proofs.Common.{◌≡◌, map, take}
use Rattle.std.specs.List.{AllByRecursion}
use Rattle.csi_stores.specs.Public.Part.{all_stored_in}
use Rattle.csi_records.proofs.plugin_rows.rows_of.Given as goal

-- the parts so far are rows
abbrev pub invariant-loop-part : goal.invariant-loop-part
invariant-loop-part g l =
    record {
      fit : AllByRecursion (g.T.Row.is_row l.version) (map g.T.Row.shown l.rows.items);
      are : map (g.T.Row.row_part l.version) (map g.T.Row.shown l.rows.items) ≡ all_stored_in (take l.part-index l.parts);
    }
