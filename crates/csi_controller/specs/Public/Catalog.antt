-- A catalog: rows, and the id of each name.
use Rattle.std.specs.Prelude.{◌≡◌, map}
use Rattle.csi_controller.specs.declared.catalog.Catalog.{Catalog}
use Rattle.csi_controller.specs.Public.Names.{by_name, by_text}
use Rattle.csi_controller.specs.Public.OneRow.{row_shown}

-- the id of each row is under its name, in the order of the rows
abbrev pub IsIndexed : Catalog → Type 0
IsIndexed catalog = map by_text catalog.ids.entries ≡ map by_name (map row_shown catalog.rows.items)
