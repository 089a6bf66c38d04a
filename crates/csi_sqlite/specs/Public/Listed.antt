-- What a database lists: nothing, the table as it is declared, or something else. This profile's own.
use Rattle.std.specs.Prelude.{◌≡◌}
use Rattle.sqlite.specs.Schema.{Schema}
use Rattle.csi_sqlite.specs.Public.Declared.{no_schema, parts_schema}

-- neither the table as it is declared, alone, nor nothing: another table, index or view, a trigger, or what SQLite doesn't understand
pub record ListsOther (schema : Schema) : Type 0 where
  pub something : ¬ (schema ≡ no_schema)
  pub else : ¬ (schema ≡ parts_schema)
