-- The names of the first rows.
use Rattle.std.specs.Prelude.{◌≡◌, map, take}
use Rattle.csi_controller.specs.Public.Names.{by_name, by_text}
use Rattle.csi_controller.specs.Public.OneRow.{row_shown}
use Rattle.csi_controller.proofs.names.names_of.Given as goal

abbrev pub invariant-loop-row : goal.invariant-loop-row
invariant-loop-row l = map by_text l.ids.entries ≡ map by_name (map row_shown (take l.row-index l.rows))
