use Rattle.std.proofs.Common.{◌≡◌, ◌++◌, take}
use Rattle.std.specs.List.{flat_map, AllByRecursion}
use Rattle.csi_records.specs.Public.Spelling.{present}
use Rattle.csi_records.proofs.items.put_list.Given as goal

-- the items so far were written, and are within their limits
abbrev pub invariant-loop-one : goal.invariant-loop-one
invariant-loop-one g l =
    record {
      so_far : l.out.items ≡ l.initial.out.items ++ flat_map g.T.Item.item_bytes (take l.one-index l.from);
      each : AllByRecursion (g.T.Item.is_item present) (take l.one-index l.from);
    }
